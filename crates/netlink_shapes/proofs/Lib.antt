pub mod FirstErrors
pub mod NestChecking
