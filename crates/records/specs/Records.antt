-- Document 01, "The billing machine": "62 day records .., 120 month records, the open day and month". The newest record stands first.
use Rattle.std.specs.Prelude.{List, [], ◌∷◌, ℕ, take, pos}
use Rattle.units.specs.declared.Millionths.{Millionths}
use Rattle.units.specs.Volume.{volume, charge}
use Rattle.units.specs.Money.{money}
use Rattle.records.specs.declared.Record.{Record}
use Rattle.records.specs.declared.OpenPeriod.{OpenPeriod}
use Rattle.records.specs.declared.Periods.{Periods}
use Rattle.records.specs.declared.Shelf.{Shelf}
use Rattle.records.specs.declared.Shelf.TheVariants.{Day, Month}

-- "a record (date, volume, charge, closing balance)"
abbrev pub record_of : ℕ → OpenPeriod → Millionths → Record
record_of date t closing = record { date = date; volume = t.volume; charge = t.charge; closing = closing }

abbrev pub no_record : Record
no_record = record { date = 0; volume = volume 0; charge = charge 0; closing = money (pos 0) }

-- an open day or month with nothing in it
abbrev pub nothing : OpenPeriod
nothing = record { volume = volume 0; charge = charge 0 }

abbrev pub no_periods : Periods
no_periods = record { day = nothing; month = nothing }

abbrev pub day_limit : ℕ
day_limit = 62

abbrev pub month_limit : ℕ
month_limit = 120

abbrev pub shelf_limit : Shelf → ℕ
shelf_limit Day = day_limit
shelf_limit Month = month_limit

-- the records that are held
pub record Held : Type 0 where
  pub days : List Record
  pub months : List Record

abbrev pub records_of : Shelf → Held → List Record
records_of Day h = h.days
records_of Month h = h.months

abbrev pub none_held : Held
none_held = record { days = []; months = [] }

-- a new record in front; "the oldest gives way when full"
abbrev pub in_front : ℕ → Record → List Record → List Record
in_front limit r rs = take limit (r ∷ rs)
