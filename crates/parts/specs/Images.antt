-- What stands in an image as a row of fields: its rules, its procedures and its main command; and the command that a procedure
-- is. Rests on the meaning's Image, on Series and on Rows.
use Rattle.std.specs.Prelude.{◌≡◌, refl, ℕ, suc, ◌+◌, ◌-◌, ◌<◌, ◌≤◌, eqb, get_or, take, drop}
use Rattle.std.proofs.Common.{sym, ◌∙◌, arith, length-append, get_or-append-add}
use Rattle.std.proofs.Math.Path.{ap}
use Rattle.std.proofs.Math.Option.{Option, some, none}
use mathlib.Core.List.{List, [], ◌∷◌, ◌++◌, map}
use Rattle.std.proofs.Math.Decide.{ℕ_discrete}
use Rattle.std.proofs.Math.ListN.{length}
use Rattle.std.proofs.lemmas.List.{length-map, get_or_at}
use Rattle.meaning.specs.Tags.{procedure_tag, rule_tag}
use Rattle.meaning.specs.Basics.{choose, ◌>>=◌}
use Rattle.meaning.specs.Image.{Rule, Raw, RawProgram, limits, field, rule, command, one_command, raw_program}
use Rattle.meaning.specs.Laws.Tests.{choose_eq, choose_ne, some_inj, bind_some}
use Rattle.fields.specs.Image.{bind_yes}
use Rattle.fields.specs.Laws.{Lies}
use Rattle.fields.specs.Parsed.{command-tag, command-tagged, one-is, program-is}
use Rattle.parts.specs.Series.{Series, For, Taken, leading-series, series_append, series-map, series-none, series-some, series-there, nth_part, nth_tag, nth-item}
use Rattle.parts.specs.Rows.{tag_item, front, tagged, tagged-yes, tagged-some, nth_of, count-is}

-- a rule, a procedure, or the main command with its tag
pub data Part : Type 0 where
  rule_of : Rule → Part
  procedure_of : Raw → Part
  main_of : ℕ → Raw → Part

abbrev pub procedure : List ℕ → Option Raw
procedure bs = one_command (command limits.depth) bs

unfoldable pub image_part : ℕ → List ℕ → Option Part
image_part tag bs =
    choose (eqb tag rule_tag) (rule bs >>= λ x. some (rule_of x))
    (choose (eqb tag procedure_tag) (procedure bs >>= λ c. some (procedure_of c))
    (command limits.depth tag bs >>= λ c. some (main_of tag c)))

-- what is behind the rules
abbrev pub command_parts : ℕ → RawProgram → List Part
command_parts tag p = map procedure_of p.procedures ++ main_of tag p.main ∷ []

abbrev pub image_parts : ℕ → RawProgram → List Part
image_parts tag p = map rule_of p.rules ++ command_parts tag p

abbrev pub IsPart : ℕ → List ℕ → Part → Type 0
IsPart tag bs (rule_of x) = (tag ≡ rule_tag) × (rule bs ≡ some x)
IsPart tag bs (procedure_of c) = (tag ≡ procedure_tag) × (procedure bs ≡ some c)
IsPart tag bs (main_of t c) = (tag ≡ t) × (command limits.depth tag bs ≡ some c)

pub part-is : (tag : ℕ) (bs : List ℕ) (i : Part) → image_part tag bs ≡ some i → IsPart tag bs i
unfolding image_part
part-is tag bs i e = at (ℕ_discrete tag rule_tag) (ℕ_discrete tag procedure_tag)
  where
    at : Dec (tag ≡ rule_tag) → Dec (tag ≡ procedure_tag) → IsPart tag bs i
    at (yes h) k =
        let t = bind_some (rule bs) _ i (sym (choose_eq tag rule_tag _ _ h) ∙ e) in
        rw (← (some_inj (rule_of t.0) i t.2)) (h, t.1)
    at (no h) (yes k) =
        let t = bind_some (procedure bs) _ i (sym (choose_ne tag rule_tag _ _ h ∙ choose_eq tag procedure_tag _ _ k) ∙ e) in
        rw (← (some_inj (procedure_of t.0) i t.2)) (k, t.1)
    at (no h) (no k) =
        let t = bind_some (command limits.depth tag bs) _ i (sym (choose_ne tag rule_tag _ _ h ∙ choose_ne tag procedure_tag _ _ k) ∙ e) in
        rw (← (some_inj (main_of tag t.0) i t.2)) (refl, t.1)

rule-item : (tag : ℕ) (bs : List ℕ) (x : Rule) → tagged rule_tag rule tag bs ≡ some x → image_part tag bs ≡ some (rule_of x)
unfolding image_part choose
rule-item tag bs x e =
    let t = tagged-some rule_tag rule tag bs x e in
    rw (← t.0) (bind_yes _ _ x t.1)

procedure-item : (tag : ℕ) (bs : List ℕ) (c : Raw) → tagged procedure_tag procedure tag bs ≡ some c → image_part tag bs ≡ some (procedure_of c)
unfolding image_part choose
procedure-item tag bs c e =
    let t = tagged-some procedure_tag procedure tag bs c e in
    rw (← t.0) (bind_yes _ _ c t.1)

pub command-above : (tag : ℕ) (bs : List ℕ) (c : Raw) → command limits.depth tag bs ≡ some c → procedure_tag < tag
command-above tag bs c e = omega (arith, (command-tag limits.depth tag bs c e).1, command-tagged c)

main-item : (tag : ℕ) (bs : List ℕ) (c : Raw) → command limits.depth tag bs ≡ some c → image_part tag bs ≡ some (main_of tag c)
unfolding image_part
main-item tag bs c e =
    let h = command-above tag bs c e in
    choose_ne tag rule_tag _ _ (λ q. omega arith) ∙ choose_ne tag procedure_tag _ _ (λ q. omega arith) ∙ bind_yes _ _ c e

pub image-series : (bs : List ℕ) (p : RawProgram) → raw_program bs ≡ some p → (t : ℕ) × (procedure_tag < t) × (Series image_part (image_parts t p) [] bs)
unfolding raw_program Series
image-series bs p e =
    let i = program-is limits.procedures (command limits.depth) bs p e in
    let m = i.main in
    let rs = leading-series (eqb rule_tag) (λ tag. rule) (tagged rule_tag rule) (tagged-yes rule_tag rule) limits.rules bs _ i.rules in
    let ks = leading-series (eqb procedure_tag) (λ tag. procedure) (tagged procedure_tag procedure) (tagged-yes procedure_tag procedure) limits.procedures i.behind _ i.procedures in
    let last : Series image_part (main_of m.whole.tag p.main ∷ []) [] i.last = record { whole = m.whole; there = m.there; read = main-item _ _ p.main m.command; more = m.last } in (
      m.whole.tag,
      command-above _ _ p.main m.command,
      series_append image_part (map rule_of p.rules) (command_parts m.whole.tag p) i.behind bs []
          (series-map (tagged rule_tag rule) image_part rule_of rule-item p.rules i.behind bs rs)
          (series_append image_part (map procedure_of p.procedures) (main_of m.whole.tag p.main ∷ []) i.last i.behind []
          (series-map (tagged procedure_tag procedure) image_part procedure_of procedure-item p.procedures i.last i.behind ks) last),
    )

-- Tags.

unfoldable part_tag : Part → ℕ
part_tag (rule_of x) = rule_tag
part_tag (procedure_of c) = procedure_tag
part_tag (main_of t c) = t

part-tag : (tag : ℕ) (bs : List ℕ) (i : Part) → image_part tag bs ≡ some i → tag_item tag bs ≡ some (part_tag i)
unfolding part_tag
part-tag tag bs (rule_of x) e = ap some (part-is tag bs (rule_of x) e).0
part-tag tag bs (procedure_of c) e = ap some (part-is tag bs (procedure_of c) e).0
part-tag tag bs (main_of t c) e = ap some (part-is tag bs (main_of t c) e).0

-- nothing behind the rules is one
front-behind : (ks : List Raw) (t : ℕ) (c : Raw) → procedure_tag < t → front rule_tag (map part_tag (map procedure_of ks ++ main_of t c ∷ [])) ≡ 0
unfolding front part_tag
front-behind [] t c h = choose_ne t rule_tag _ _ (λ e. omega arith)
front-behind (k ∷ ks) t c h = choose_ne procedure_tag rule_tag _ _ (λ e. omega arith)

front-parts : (xs : List Rule) (ks : List Raw) (t : ℕ) (c : Raw) → procedure_tag < t → front rule_tag (map part_tag (map rule_of xs ++ (map procedure_of ks ++ main_of t c ∷ []))) ≡ length xs
unfolding front part_tag choose
front-parts [] ks t c h = front-behind ks t c h
front-parts (x ∷ xs) ks t c h = ap suc (front-parts xs ks t c h)

count-parts : (t : ℕ) (p : RawProgram) → length (image_parts t p) ≡ length p.rules + (length p.procedures + 1)
count-parts t p =
    length-append (map rule_of p.rules) (command_parts t p)
    ∙ rw (length-map p.rules rule_of, length-append (map procedure_of p.procedures) (main_of t p.main ∷ []), length-map p.procedures procedure_of)

-- the tags at the front are as many as there are rules
pub rule-count-is : (bs : List ℕ) (r : ℕ) → ((l : List ℕ) → Series tag_item l [] bs → r ≡ front rule_tag l) → For (raw_program bs) (λ p. r ≡ length p.rules)
rule-count-is bs r h p e =
    let t = image-series bs p e in
    h (map part_tag (image_parts t.0 p)) (series-map image_part tag_item part_tag part-tag (image_parts t.0 p) [] bs t.2)
    ∙ front-parts p.rules p.procedures t.0 p.main t.1

-- the last of all fields is the main command, and the others are rules and procedures
pub parts-counted : (bs : List ℕ) (all : ℕ) → ((l : List ℕ) → Series tag_item l [] bs → all ≡ length l) → For (raw_program bs) (λ p. all ≡ length p.rules + (length p.procedures + 1))
parts-counted bs all h p e =
    let t = image-series bs p e in
    count-is image_part bs all h (image_parts t.0 p) t.2 ∙ count-parts t.0 p

-- The rule of a number, and the main command.

module _ (bs : List ℕ) (p : RawProgram) (e : raw_program bs ≡ some p) where
  nth : (i : ℕ) (d : Part) → i < length p.rules + (length p.procedures + 1) → image_part (nth_tag i bs) (nth_part i bs) ≡ some (get_or (image_parts (image-series bs p e).0 p) i d)
  nth i d h =
      let r = image-series bs p e in
      nth-item bs image_part (image_parts r.0 p) i d r.2 (omega (arith, count-parts r.0 p))

  -- what stands behind the rules
  nth-command : (i : ℕ) (d : Part) → i < length p.procedures + 1 → image_part (nth_tag (length p.rules + i) bs) (nth_part (length p.rules + i) bs) ≡ some (get_or (command_parts (image-series bs p e).0 p) i d)
  nth-command i d h =
      let r = image-series bs p e in
      let l = length-map p.rules rule_of in
      let z : length (map rule_of p.rules) + i ≡ length p.rules + i = omega arith in
      nth (length p.rules + i) d (omega arith)
      ∙ ap some (ap (λ (n : ℕ). get_or (image_parts r.0 p) n d) (sym z) ∙ get_or-append-add (map rule_of p.rules) (command_parts r.0 p) i d)

  pub nth-rule : (i : ℕ) → i < length p.rules → (d : Rule) → rule (nth_part i bs) ≡ some (get_or p.rules i d)
  nth-rule i h d =
      let t = nth i (rule_of d) (omega arith) in
      (part-is (nth_tag i bs) (nth_part i bs) (rule_of (get_or p.rules i d)) (t ∙ ap some (nth_of rule_of p.rules _ i d h))).1

  pub main-command : let n = length p.rules + length p.procedures in command limits.depth (nth_tag n bs) (nth_part n bs) ≡ some p.main
  main-command =
      let r = image-series bs p e in
      let n = length p.rules + length p.procedures in
      let m = main_of r.0 p.main in
      let t = nth-command (length p.procedures) m (omega arith) in
      (part-is (nth_tag n bs) (nth_part n bs) m (t ∙ ap some (get_or_at (map procedure_of p.procedures) m [] m _ (length-map p.procedures procedure_of)))).1

-- the main command from a tag and a part that are known to be its
pub main-is : (bs part : List ℕ) (tag : ℕ) (p : RawProgram) → raw_program bs ≡ some p → tag ≡ nth_tag (length p.rules + length p.procedures) bs
    → part ≡ nth_part (length p.rules + length p.procedures) bs → command limits.depth tag part ≡ some p.main
main-is bs part tag p e h k = rw (h, k) (main-command bs p e)

-- A loop that looks for a procedure: what is left to count is left from the place on.

-- the parts that are no rules
unfoldable commands_in : List Part → List Part
commands_in [] = []
commands_in (rule_of x ∷ l) = commands_in l
commands_in (procedure_of c ∷ l) = procedure_of c ∷ commands_in l
commands_in (main_of t c ∷ l) = main_of t c ∷ commands_in l

commands-behind : (ks : List Raw) (t : ℕ) (c : Raw) → commands_in (map procedure_of ks ++ main_of t c ∷ []) ≡ map procedure_of ks ++ main_of t c ∷ []
unfolding commands_in
commands-behind [] t c = refl
commands-behind (k ∷ ks) t c = ap (λ (l : List Part). procedure_of k ∷ l) (commands-behind ks t c)

commands_in_lem : (xs : List Rule) (ks : List Raw) (t : ℕ) (c : Raw) → commands_in (map rule_of xs ++ (map procedure_of ks ++ main_of t c ∷ [])) ≡ map procedure_of ks ++ main_of t c ∷ []
unfolding commands_in
commands_in_lem [] ks t c = commands-behind ks t c
commands_in_lem (x ∷ xs) ks t c = commands_in_lem xs ks t c

-- a part that is no rule is counted, and one that is one is not
not-counted : (tag : ℕ) (bs : List ℕ) (a : Part) (l : List Part) → image_part tag bs ≡ some a → tag ≡ rule_tag → commands_in (a ∷ l) ≡ commands_in l
unfolding commands_in
not-counted tag bs (rule_of x) l e h = refl
not-counted tag bs (procedure_of c) l e h = absurd (omega (arith, (part-is tag bs (procedure_of c) e).0))
not-counted tag bs (main_of t c) l e h = absurd (omega (arith, command-above tag bs c (part-is tag bs (main_of t c) e).1))

counted : (tag : ℕ) (bs : List ℕ) (a : Part) (l : List Part) → image_part tag bs ≡ some a → (tag ≡ rule_tag → ⊥) → commands_in (a ∷ l) ≡ a ∷ commands_in l
unfolding commands_in
counted tag bs (rule_of x) l e h = absurd (h (part-is tag bs (rule_of x) e).0)
counted tag bs (procedure_of c) l e h = refl
counted tag bs (main_of t c) l e h = refl

same-procedure : (tag : ℕ) (bs : List ℕ) (a : Part) (c : Raw) → image_part tag bs ≡ some a → a ≡ procedure_of c → procedure bs ≡ some c
same-procedure tag bs a c e h = (part-is tag bs (procedure_of c) (e ∙ ap some h)).1

record Ahead (bs : List ℕ) (i at left : ℕ) (p : RawProgram) : Type 0 where
  parts : List Part
  series : Series image_part parts [] (drop at bs)
  there : left < length (commands_in parts)
  same : (d : Raw) → get_or (commands_in parts) left (procedure_of d) ≡ procedure_of (get_or p.procedures i d)

pub record Seeking (bs : List ℕ) (i at left : ℕ) : Type 0 where
  ahead : For (raw_program bs) (λ p. i < length p.procedures → Ahead bs i at left p)

pub seeking_start : (bs : List ℕ) (i : ℕ) → Seeking bs i 0 i
seeking_start bs i =
    record {
      ahead = λ p e h.
          let t = image-series bs p e in
          let q = commands_in_lem p.rules p.procedures t.0 p.main in
          let n = length-append (map procedure_of p.procedures) (main_of t.0 p.main ∷ []) in
          let m = length-map p.procedures procedure_of in
          record {
            parts = image_parts t.0 p;
            series = t.2;
            there = omega (arith, ap length q);
            same = λ d. ap (λ (l : List Part). get_or l i (procedure_of d)) q ∙ nth_of procedure_of p.procedures _ i d h;
          };
    }

module _ {bs : List ℕ} {i at left : ℕ} (w : Seeking bs i at left) where
  abbrev Found : List ℕ → Type 0
  Found part = For (raw_program bs) (λ p. i < length p.procedures → (d : Raw) → procedure part ≡ some (get_or p.procedures i d))

  pub seeking_done : (part : List ℕ) → length bs ≤ at → Found part
  unfolding commands_in
  seeking_done part h p e k d =
      let a = w.ahead p e k in
      let z : length (commands_in a.parts) ≡ 0 = ap (λ (l : List Part). length (commands_in l)) (series-none image_part bs at a.parts a.series h) in
      absurd (omega (arith, a.there))

  pub seeking_cut : (part : List ℕ) → at < length bs → field (drop at bs) ≡ none → Found part
  seeking_cut part h q p e k d = let a = w.ahead p e k in absurd (series-there image_part bs at a.parts a.series h q)

  module _ {tag start end : ℕ} (h : at < length bs) (f : Lies bs at tag start end) where
    taken : {p : RawProgram} (a : Ahead bs i at left p) → Taken image_part a.parts bs tag start end
    taken a = series-some image_part bs at a.parts a.series h tag start end f

    pub seeking_rule : tag ≡ rule_tag → Seeking bs i end left
    seeking_rule r =
        record {
          ahead = λ p e k.
              let a = w.ahead p e k in
              let u = taken a in
              let z : commands_in a.parts ≡ commands_in u.others = ap commands_in u.parts ∙ not-counted tag _ u.first u.others u.read r in
              record { parts = u.others; series = u.series; there = rw z at a.there; same = λ d. rw z at (a.same d) };
        }

    module _ (r : tag ≡ rule_tag → ⊥) where
      one_more : {p : RawProgram} (a : Ahead bs i at left p) → commands_in a.parts ≡ (taken a).first ∷ commands_in (taken a).others
      one_more a = let u = taken a in ap commands_in u.parts ∙ counted tag _ u.first u.others u.read r

      pub seeking_other : (left ≡ 0 → ⊥) → Seeking bs i end (left - 1)
      seeking_other g =
          record {
            ahead = λ p e k.
                let a = w.ahead p e k in
                let u = taken a in
                let z : left ≡ suc (left - 1) = omega arith in
                record {
                  parts = u.others;
                  series = u.series;
                  there = omega (arith, a.there, ap length (one_more a));
                  same = λ d. ap (λ (n : ℕ). get_or (u.first ∷ commands_in u.others) n (procedure_of d)) (sym z) ∙ ap (λ (l : List Part). get_or l left (procedure_of d)) (sym (one_more a)) ∙ a.same d;
                };
          }

      pub seeking_found : {part : List ℕ} → part ≡ take (end - start) (drop start bs) → left ≡ 0 → Found part
      seeking_found {part} q g p e k d =
          let a = w.ahead p e k in
          let u = taken a in
          let y : u.first ≡ procedure_of (get_or p.procedures i d) = ap (λ (n : ℕ). get_or (u.first ∷ commands_in u.others) n (procedure_of d)) (sym g) ∙ ap (λ (l : List Part). get_or l left (procedure_of d)) (sym (one_more a)) ∙ a.same d in
          ap procedure q ∙ same-procedure tag _ u.first _ u.read y

-- A procedure's command is its first field.

pub command_in : (bs : List ℕ) (c : Raw) → procedure bs ≡ some c → command limits.depth (nth_tag 0 bs) (nth_part 0 bs) ≡ some c
unfolding Series
command_in bs c e =
    let i = one-is (command limits.depth) bs c e in
    nth-item bs (command limits.depth) (c ∷ []) 0 c (record { whole = i.whole; there = i.there; read = i.command; more = i.last }) (omega arith)
