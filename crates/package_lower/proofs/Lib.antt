mod Reporting
mod Causes
