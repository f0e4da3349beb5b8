mod Names
mod Search
