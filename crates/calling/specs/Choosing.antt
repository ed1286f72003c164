-- The two steps of a call: the first listed rule that has a match, and how applying it ends the call.
-- Rests on values' Values, on applying's Application and on the meaning's Commands.
use Rattle.std.specs.Prelude.{◌≡◌, false, Option, Some, None, Result, Ok, Err, List, ℕ, ◌<◌, length, take}
use Rattle.std.proofs.Math.Option as math
use Rattle.meaning.specs.Basics.{absent}
use Rattle.meaning.specs.Image.{Rule, raw_program, most_items}
use Rattle.meaning.specs.References.{names}
use Rattle.meaning.specs.Assigned.{assigned}
use Rattle.meaning.specs.Commands.{Chosen, rule_at, first_rule}
use Rattle.meaning.specs.declared.Layout.{Layout}
use Rattle.meaning.specs.declared.Tally.{Tally}
use Rattle.meaning.specs.declared.End.{End}
use Rattle.meaning.specs.declared.End.TheVariants.{Done as done_end, Stopped as stopped_end}
use Rattle.parts.specs.Series.{For}
use Rattle.meaning.specs.Layout.{host_of}
use Rattle.meaning.specs.Matching.{total}
use Rattle.values.specs.Values.{values_of, Stored}
use Rattle.meaning.specs.declared.Ran.{Ran}
use Rattle.meaning.specs.declared.Stop.{Stop}
use Rattle.applying.specs.Application.{records_after}

-- The rule and its match.

-- the rule of a number with its slots, where there is a match
abbrev pub chosen_at : List Rule → Option (ℕ × List ℕ) → math.Option Chosen
chosen_at rules (Some c) = math.some (record { number = c.0; rule = rule_at rules c.0; slots = take (total (rule_at rules c.0)) c.1 })
chosen_at rules None = math.none

module _ (L : Layout) where
  -- a match of rule i of the list: the arrays hold the values of the variables that occur on the left
  pub record HasMatch (rules : List Rule) (nodes edges : List ℕ) (i : ℕ) (slots lens atoms : List ℕ) : Type 0 where
    pub there : i < length rules
    pub room : length slots ≡ most_items
    pub arrays : Stored lens atoms
    pub values : (v : ℕ) → absent v (names (rule_at rules i).left) ≡ false
        → values_of lens atoms v ≡ assigned (host_of L nodes edges) (rule_at rules i) (take (total (rule_at rules i)) slots) v

  -- the first listed rule that has a match
  pub record IsChoice (image numbers nodes edges : List ℕ) (c : Option (ℕ × List ℕ)) (lens atoms : List ℕ) : Type 0 where
    pub right : For (raw_program image) (λ p. chosen_at p.rules c ≡ first_rule p.rules (host_of L nodes edges) numbers)
    pub match : For (raw_program image)
        (λ p. (i : ℕ) (slots : List ℕ) → c ≡ Some (i, slots) → HasMatch p.rules nodes edges i slots lens atoms)

-- How applying it ends the call.

unfoldable pub end_of : Result ℕ Stop → End
end_of (Ok n) = done_end
end_of (Err w) = stopped_end w

abbrev pub ran_after : Tally → Result ℕ Stop → Ran
ran_after t a = record { end = end_of a; tally = record { fuel = t.fuel; steps = t.steps; records = records_after t.records a } }
