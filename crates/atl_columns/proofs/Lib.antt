pub mod Utf8Laws
