-- Where the parser of a record stops, and the kinds by name and by byte.
pub mod RecordStops
pub mod KindNames
