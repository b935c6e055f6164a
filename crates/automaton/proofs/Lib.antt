-- What the tables say, table by table.
mod Masks
mod Joining
mod Leading
mod Behind
mod RowMeanings
mod Adding
mod StepPlace
mod ReadTables
mod OneReading
mod SetRows
mod NextSets
