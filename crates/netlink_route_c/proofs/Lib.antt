mod Getting
mod Items
mod Places
mod Shaped
