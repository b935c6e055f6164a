-- That lines of numbers are read as what they spell.
mod Scans
mod SpelledRead
mod ReadSpelled
mod LineReads
