-- What reading answers, by the answers to its questions: the first no (`first_no1` to `first_no5`), or the program (`all_yes`).
-- Assumes nothing.
use Prim.Native.Nat.{ℕ}
use mathlib.Core.List.{List}
use mathlib.Core.Bool.{true, false}
use mathlib.Core.Path.{◌≡◌}
use Rattle.image_spec.specs.declared.Layout.{Layout}
use Rattle.image_spec.specs.declared.Refusal.TheVariants.{Size, LayoutNumber, Directory, RecordForm, Shape}
use Rattle.image_spec.specs.Reading.{question1, question2, question3, question4, question5, program_of, refuse, accept, reading}

module _ (L : Layout) (s : List ℕ) where
  pub first_no1 : question1 L s ≡ false → reading L s ≡ refuse Size
  unfolding reading
  first_no1 n = rw n

  module _ (y1 : question1 L s ≡ true) where
    pub first_no2 : question2 L s ≡ false → reading L s ≡ refuse LayoutNumber
    unfolding reading
    first_no2 n = rw (y1, n)

    module _ (y2 : question2 L s ≡ true) where
      pub first_no3 : question3 L s ≡ false → reading L s ≡ refuse Directory
      unfolding reading
      first_no3 n = rw (y1, y2, n)

      module _ (y3 : question3 L s ≡ true) where
        pub first_no4 : question4 L s ≡ false → reading L s ≡ refuse RecordForm
        unfolding reading
        first_no4 n = rw (y1, y2, y3, n)

        module _ (y4 : question4 L s ≡ true) where
          pub first_no5 : question5 L s ≡ false → reading L s ≡ refuse Shape
          unfolding reading
          first_no5 n = rw (y1, y2, y3, y4, n)

          pub all_yes : question5 L s ≡ true → reading L s ≡ accept (program_of L s)
          unfolding reading
          all_yes n = rw (y1, y2, y3, y4, n)
