-- What the code keeps of lists, marks and labels. Rests on Integers, on the text's Grammar and on labels' Labels.
use Rattle.std.specs.Prelude.{◌≡◌, Bool, true, false, Option, Some, None, Result, Ok, Err, List, [], ◌∷◌, ◌++◌, map, ℕ, suc, length, leb}
use Rattle.meaning.specs.Basics.{choose, both, every}
use Rattle.meaning.specs.Layout.{most_atoms}
use Rattle.labels.specs.declared.Label.{Label}
use Rattle.labels.specs.Labels.{Holds}
use Rattle.text.specs.Words.{Word}
use Rattle.text.specs.Integers.{Integer, is_atom, atom}
use Rattle.text.specs.Grammar.{Parsed, index, known, marks, label}
use Rattle.parsing.specs.Reading.{Reads, Breaks}
use Rattle.parsing.specs.Integers.{Atom}
use Rattle.parsing.specs.declared.BrokenAt.{BrokenAt}
use Rattle.parsing.specs.declared.labelling.ListAt.{ListAt}
use Rattle.parsing.specs.declared.labelling.ByteAt.{ByteAt}
use Rattle.parsing.specs.declared.labelling.LabelAt.{LabelAt}

-- integers are atoms for which a label has room
abbrev pub fit : List Integer → Bool
fit l = both (leb (length l) most_atoms) (every is_atom l)

-- they are, and these are the atoms; or they are not
abbrev pub Gathers : List Integer → Option Label → Type 0
Gathers l (Some label) = (fit l ≡ true) × Holds (map atom l) label
Gathers l None = fit l ≡ false

-- the same of one integer more
abbrev pub GathersMore : Option Label → Option ℕ → Option Label → Type 0
GathersMore g a r = (l : List Integer) (x : Integer) → Gathers l g → Atom x a → Gathers (l ++ x ∷ []) r

abbrev pub ReadsList : List ℕ → ℕ → (List Word → Parsed (List Integer)) → Result ListAt BrokenAt → Type 0
ReadsList bs at item (Ok r) = (written : List Integer) × Reads bs at item r.next written × Gathers written r.label
ReadsList bs at item (Err b) = Breaks bs at item b

-- the number of the mark with a name
abbrev pub mark_number : List ℕ → Option ℕ
mark_number id = choose (known id marks) (Some (suc (index id marks))) None

-- a number is read
abbrev pub ReadsByte : List ℕ → ℕ → (List Word → Parsed ℕ) → Result ByteAt BrokenAt → Type 0
ReadsByte bs at item (Ok r) = Reads bs at item r.next r.byte
ReadsByte bs at item (Err b) = Breaks bs at item b

abbrev pub ReadsLabel : List ℕ → ℕ → Result LabelAt BrokenAt → Type 0
ReadsLabel bs at (Ok r) = (written : List Integer) × Reads bs at label r.next (record { atoms = written; mark = r.mark }) × Gathers written r.label
ReadsLabel bs at (Err b) = Breaks bs at label b
