-- What is asked of each command and of each part of an image, for a demand. `t` are the heights of the procedures: how deep each
-- one's command is with procedures put in for calls, where that is known. Rests on the meaning's Image and Tags and on parts'
-- Images.
use Rattle.std.specs.Prelude.{Bool, true, false, Option, Some, None, List, [], ◌∷◌, ℕ, ◌-◌, eqb, ltb, get_or, drop}
use Rattle.meaning.specs.Basics.{choose, both, every}
use Rattle.meaning.specs.Image.{Raw, rule_set, sequence, guarded, loop, skip, fail, break, call, Raws, no_more, then}
use Rattle.meaning.specs.Tags.{loop_tag, sequence_tag, guarded_tag}
use Rattle.parts.specs.Images.{Part, rule_of, procedure_of, main_of}
use Rattle.command_checks.specs.declared.Demand.{Demand}
use Rattle.command_checks.specs.declared.Demand.TheVariants.{Names, Breaks, Depth}

-- there may be a command at all
abbrev pub room_asked : Demand → Bool
room_asked (Names n m) = true
room_asked (Breaks ok) = true
room_asked (Depth n) = ltb 0 n

unfoldable pub numbers_asked : Demand → List ℕ → Bool
numbers_asked (Names n m) l = every (λ i. ltb i n) l
numbers_asked (Breaks ok) l = true
numbers_asked (Depth n) l = true

abbrev pub break_asked : Demand → Bool
break_asked (Names n m) = true
break_asked (Breaks ok) = ok
break_asked (Depth n) = true

-- a height is below n; one that is not known is too high
unfoldable pub is_low : ℕ → Option ℕ → Bool
is_low n None = false
is_low n (Some h) = ltb h n

-- a procedure that there is not stands for skip
unfoldable pub call_asked : Demand → List (Option ℕ) → ℕ → Bool
call_asked (Names n m) t i = ltb i m
call_asked (Breaks ok) t i = true
call_asked (Depth n) t i = is_low n (get_or t i (Some 1))

-- what is asked of the parts of a command
abbrev pub inside : Demand → Demand
inside (Names n m) = Names n m
inside (Breaks ok) = Breaks ok
inside (Depth n) = Depth (n - 1)

-- the same where a break may stand, or may not
abbrev pub breaking : Demand → Bool → Demand
breaking (Names n m) may = Names n m
breaking (Breaks ok) may = Breaks may
breaking (Depth n) may = Depth n

unfoldable mutual
  pub command_asked : Demand → List (Option ℕ) → Raw → Bool
  command_asked d t (rule_set l) = both (room_asked d) (numbers_asked d l)
  command_asked d t (sequence cs) = both (room_asked d) (commands_asked (inside d) t cs)
  command_asked d t (guarded keep g a b) =
      both (room_asked d)
      (both (command_asked (breaking (inside d) false) t g) (both (command_asked (inside d) t a) (command_asked (inside d) t b)))
  command_asked d t (loop c) = both (room_asked d) (command_asked (breaking (inside d) true) t c)
  command_asked d t skip = room_asked d
  command_asked d t fail = room_asked d
  command_asked d t break = both (room_asked d) (break_asked d)
  command_asked d t (call i) = both (room_asked d) (call_asked d t i)

  pub commands_asked : Demand → List (Option ℕ) → Raws → Bool
  commands_asked d t no_more = true
  commands_asked d t (then c cs) = both (command_asked d t c) (commands_asked d t cs)

-- what is asked of the first of some commands, and of the others
unfoldable pub parts_asked : Demand → Demand → List (Option ℕ) → List Raw → Bool
parts_asked first others t [] = true
parts_asked first others t (c ∷ l) = both (command_asked first t c) (parts_asked others others t l)

-- what is asked of the first part of a command of a tag, a loop's body, a sequence's first command or a guard, from what is asked
-- of the others
unfoldable pub of_first : Demand → ℕ → Demand
of_first d tag = choose (eqb tag loop_tag) (breaking d true) (choose (eqb tag sequence_tag) d (breaking d false))

-- the commands in a command of a tag: those in a guarded one are behind its flag
unfoldable pub inner_of : ℕ → List ℕ → List ℕ
inner_of tag bs = choose (eqb tag guarded_tag) (drop 1 bs) bs

-- what is asked of a part of an image: of a rule nothing
unfoldable pub part_asked : Demand → List (Option ℕ) → Part → Bool
part_asked d t (rule_of x) = true
part_asked d t (procedure_of c) = command_asked d t c
part_asked d t (main_of tag c) = command_asked d t c
