mod Numbers
mod Scans
mod Splits
mod Verbs
