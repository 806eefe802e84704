pub mod Hmac
pub mod Sign
