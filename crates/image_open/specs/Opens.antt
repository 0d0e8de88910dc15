-- What code answers that opens an image: what opening finds, of the image that it was given.
use Rattle.std.specs.Prelude.{ℕ, ◌≡◌, List, Result, Ok, Err}
use Rattle.image_spec.specs.declared.Layout.{Layout}
use Rattle.image_spec.specs.declared.Refusal.{Refusal}
use Rattle.image_open.specs.Opening.{Contents, opened_of}
use Rattle.image_open.specs.declared.opened.Opened.{Opened}

abbrev pub contents_of : Opened → Contents
contents_of o = record { frame = o.image.frame; definitions = o.definitions; max_id = o.max_id }

pub data Opens (L : Layout) (s : List ℕ) : Result Opened Refusal → Type 0 where
  closed : {q : Refusal} → opened_of L s ≡ Err q → Opens L s (Err q)
  opened : {o : Opened} → opened_of L s ≡ Ok (contents_of o) → o.image.bytes.now ≡ s → Opens L s (Ok o)
