-- Demand 3, as one claim about the two runs.
-- document 01, "The two machines": Demand 3 is one claim about these runs from their start, not one for each statement or step.
use Rattle.std.specs.Prelude.{ℕ, ◌+◌, ◌*◌, ◌≤◌, ◌≡◌, ◌⊎◌, ◌≢◌, List, length}
use Rattle.std.proofs.Math.Option.{some}
use Rattle.model.specs.Syntax.{Prog}
use Rattle.model.specs.Pass.{linearize}
use Rattle.model.specs.Machine.{State, Event, Outcome, silent, halts, stops, run, Given, Start, begun, no_start}
use Rattle.model.specs.Source.{source_step_lem, source_start}
use Rattle.model.specs.Linear.{linear_step_lem, linear_start}
use Rattle.model.specs.Questions.{Accepted}

-- the run has no next step
abbrev pub NoNext : Outcome → Type 0
NoNext o = (o ≡ halts) ⊎ (o ≡ stops)

-- the linear run has no next step either: at once, or after exactly one substitution more
abbrev pub NoNextEither : Prog → State → Type 0
NoNextEither P t = NoNext (linear_step_lem P t) ⊎ ((t₁ : State) × (linear_step_lem P t ≡ silent t₁) × NoNext (linear_step_lem P t₁))

-- after the source run's n steps, which showed `es` and led to s: these are n events, and m steps of the linear run show the same,
-- n ≤ m ≤ 2n; and where s has no next step, the linear run has none (after at most one substitution)
pub record Follows (P : Prog) (t₀ : State) (n : ℕ) (es : List Event) (s : State) : Type 0 where
  pub events : length es ≡ n
  pub m : ℕ
  pub at_least : n ≤ m
  pub at_most : m ≤ 2 * n
  pub t : State
  pub same : run (linear_step_lem (linearize P)) m t₀ ≡ some (es, t)
  pub no_next : NoNext (source_step_lem P s) → NoNextEither (linearize P) t

-- the other way round: after the linear run's m steps, which showed `es` and led to t: as many steps of the source run as there are
-- events show the same (the last of the m may be a substitution); and where t has no next step, the source run has none
pub record Leads (P : Prog) (s₀ : State) (m : ℕ) (es : List Event) (t : State) : Type 0 where
  pub at_least : length es ≤ m
  pub at_most : m ≤ 2 * length es + 1
  pub s : State
  pub same : run (source_step_lem P) (length es) s₀ ≡ some (es, s)
  pub no_next : NoNext (linear_step_lem (linearize P) t) → NoNext (source_step_lem P s)

-- the claim about the runs that begin in s₀ and in t₀
pub record Agree (P : Prog) (s₀ t₀ : State) : Type 0 where
  pub follows : (n : ℕ) (es : List Event) (s : State) → run (source_step_lem P) n s₀ ≡ some (es, s) → Follows P t₀ n es s
  pub leads : (m : ℕ) (es : List Event) (t : State) → run (linear_step_lem (linearize P)) m t₀ ≡ some (es, t) → Leads P s₀ m es t
  pub never_stops : (m : ℕ) (es : List Event) (t : State) → run (linear_step_lem (linearize P)) m t₀ ≡ some (es, t) → linear_step_lem (linearize P) t ≢ stops

-- of the two starts: both begin, and the runs agree, or neither begins; the linear machine has not stopped at its start
pub data Starts (P : Prog) : Start → Start → Type 0 where
  both-begin : {s t : State} → Agree P s t → Starts P (begun s) (begun t)
  neither-begins : Starts P no_start no_start

-- for every accepted program, every place of a definition and all start values
abbrev pub Demand3 : Type 0
Demand3 = (P : Prog) → Accepted P → (place : ℕ) (vs : List Given) → Starts P (source_start P place vs) (linear_start (linearize P) place vs)
