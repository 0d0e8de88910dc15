-- The layouts of images: the struct that the code declares, and its one value so far.
use Rattle.std.specs.Prelude.{ℕ, ◌+◌, ◌*◌, ◌^◌, ◌<◌}
use Rattle.image_spec.specs.declared.Layout.{Layout}

-- document 01, "The image": two bytes unless said; layout number 1. Question 1: 65,535 bytes
abbrev pub layout1 : Layout
layout1 = record { number = 1; id = 2; place = 2; largest = 65535 }

-- document 01, question 3: N at most 4,000
abbrev pub max_records : ℕ
max_records = 4000

-- the numbers of a layout agree: its fields hold its number, the greatest N and the largest offset
pub record LayoutOk (L : Layout) : Type 0 where
  pub number_fits : L.number < 256 ^ 2
  pub records_fit : max_records < 256 ^ L.place
  pub places_fit : L.largest < 256 ^ L.place

-- document 01, "The image": the header: layout number, definitions D, max_id, records N
abbrev pub header_size : Layout → ℕ
header_size L = 2 + (2 + (L.id + L.place))

-- document 01, question 3: the bytes from 8 + 4 × N
abbrev pub body_at : Layout → ℕ → ℕ
body_at L n = header_size L + n * (L.place + L.place)
