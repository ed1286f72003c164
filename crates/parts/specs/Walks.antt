-- Walks along the elements of a label where its bytes lie: a step and the end of one, and counting the elements.
-- Rests on Elements, Series and fields' Laws.
use Rattle.std.specs.Prelude.{◌≡◌, refl, Option, Some, None, Ok, Err, true, false, List, [], ◌∷◌, eqb, leb, take, drop}
use Rattle.std.proofs.Common.{sym, ◌∙◌, ap, eq-eqb, ne_eqb, length-drop, length-take-le, take_all}
use Rattle.std.proofs.Math.Option.{some, none}
use Prim.Native.Nat.{ℕ, suc, ◌+◌, ◌-◌, ◌<◌, ◌≤◌}
use native.Mathlib.Omega.{arith}
use Rattle.std.proofs.Math.Decide.{dec_lt}
use Rattle.std.proofs.Math.ListN.{length}
use Rattle.meaning.specs.Image.{limits, Rule, field, passes_all, element, label}
use Rattle.meaning.specs.References.{takes_list, lists}
use Rattle.meaning.specs.FirstMatch.{length_fits}
use Rattle.meaning.specs.Laws.Tests.{choose_true, choose_false}
use Rattle.meaning.specs.declared.Element.{Element}
use Rattle.fields.specs.Fields.{Found, found, field_at}
use Rattle.fields.specs.Laws.{found-field, short_none, end_none}
use Rattle.parts.specs.Series.{only-series, series-none, series-some, series-there}
use Rattle.parts.specs.Elements.{Spells, behind, Next, Begins, Opens, Counted}
use Rattle.parts.specs.declared.Counts.{Counts}

-- The bytes of a label.

pub spells_label : (bs : List ℕ) (l : List Element) → label bs ≡ some l → Spells bs l
unfolding label
spells_label bs l e = only-series passes_all element element (λ tag q a p r. r) limits.elements bs l e

-- How they begin, from the field that is found.

module _ (bs : List ℕ) (tag start end : ℕ) (f : found tag start end ≡ field_at bs 0) where
  pub lies-between : (start ≤ end) × (end ≤ length bs)
  lies-between = let a = found-field bs 0 tag start end f in (omega (arith, a.starts, a.ends), a.inside)

  pub begins : (q : List ℕ) → q ≡ take (end - start) (drop start bs) → (e : Element) → ((d : Element) → element tag q ≡ some d → e ≡ d) → Begins bs e end
  begins q i e r =
      let a = found-field bs 0 tag start end f in
      let h : 0 < end = omega (arith, a.ends) in
      record {
        onward = h;
        inside = a.inside;
        next = λ l s.
            let t = series-some element bs 0 l s (omega (arith, a.inside)) tag start end a in
            let g : e ≡ t.first = r _ (rw i t.read) in
            let k = length-drop end bs in
            record {
              later = t.others;
              spelt = rw (take_all (length bs - end) (drop end bs) (omega arith)) t.series;
              whole = t.parts ∙ ap (λ (d : Element). d ∷ t.others) (sym g);
            };
      }

pub begins-not : (bs : List ℕ) (f : Found) → f ≡ field_at bs 0 → ((tag start end : ℕ) → f ≡ found tag start end → ⊥) → (l : List Element) → Spells bs l → l ≡ []
begins-not bs f e d l s = go (dec_lt 0 (length bs))
  where
    none-there : (g : Found) → f ≡ g → field bs ≡ none
    none-there (Some (Ok g)) q = absurd (d g.tag g.start g.end q)
    none-there (Some (Err x)) q = short_none bs 0 (sym q ∙ e)
    none-there None q = end_none bs 0 (sym q ∙ e)

    go : Dec (0 < length bs) → l ≡ []
    go (yes h) = absurd (series-there element bs 0 l s h (none-there f refl))
    go (no h) = series-none element bs 0 l s (omega arith)

-- a step of a walk
pub opens-first : (bs : List ℕ) (f : Option (Element × ℕ)) (e : Element) (end : ℕ) → Opens bs f → f ≡ Some (e, end) → Begins bs e end
opens-first bs f e end o q = rw q at o

pub opens-nothing : (bs : List ℕ) (f : Option (Element × ℕ)) → Opens bs f → f ≡ None → (l : List Element) → Spells bs l → l ≡ []
opens-nothing bs f o q = rw q at o

pub shorter : {bs : List ℕ} {e : Element} {end : ℕ} → Begins bs e end → length (behind bs end) ≡ length bs - end
shorter {bs} {e} {end} b =
    let k = length-drop end bs in
    let h = b.inside in
    length-take-le (length bs - end) (drop end bs) (omega arith)

-- Counting the elements of a label.

-- n elements are counted, k of them list variables, and what is left is spelt by the rest
pub record Counting (x : Rule) (l : List Element) (rest : List ℕ) (n k : ℕ) : Type 0 where
  pub later : List Element
  pub spelt : Spells rest later
  pub long : n + length later ≡ length l
  pub listed : k + lists x later ≡ lists x l

pub counting-start : (x : Rule) (l : List Element) (p : List ℕ) → label p ≡ some l → Counting x l p 0 0
counting-start x l p e = record { later = l; spelt = spells_label p l e; long = omega arith; listed = omega arith }

module _ (x : Rule) (l : List Element) (rest : List ℕ) (n k : ℕ) (c : Counting x l rest n k) where
  pub counting-end : c.later ≡ [] → Counted x l (record { elements = n; lists = k })
  unfolding lists
  counting-end e =
      let f : n + 0 ≡ length l = rw e at c.long in
      let g : k + 0 ≡ lists x l = rw e at c.listed in
      record { long = omega arith; listed = omega arith }

  module _ (rest' : List ℕ) (e : Element) (s : Next rest' c.later e) where
    pub counting-list : takes_list x e ≡ true → Counting x l rest' (n + 1) (k + 1)
    unfolding lists
    counting-list t =
        let f : n + suc (length s.later) ≡ length l = rw s.whole at c.long in
        let g : k + lists x (e ∷ s.later) ≡ lists x l = rw s.whole at c.listed in
        let i = choose_true _ (suc (lists x s.later)) (lists x s.later) t in
        record { later = s.later; spelt = s.spelt; long = omega arith; listed = omega arith }

    pub counting-single : takes_list x e ≡ false → Counting x l rest' (n + 1) k
    unfolding lists
    counting-single t =
        let f : n + suc (length s.later) ≡ length l = rw s.whole at c.long in
        let g : k + lists x (e ∷ s.later) ≡ lists x l = rw s.whole at c.listed in
        let i = choose_false _ (suc (lists x s.later)) (lists x s.later) t in
        record { later = s.later; spelt = s.spelt; long = omega arith; listed = omega arith }

-- What a label of the counts can take.

module _ (x : Rule) (l : List Element) (s : Counts) (c : Counted x l s) (m : List ℕ) (n : ℕ) (e : n ≡ length m) where
  pub fits-plain : s.lists ≡ 0 → eqb n s.elements ≡ length_fits x l m
  unfolding length_fits
  fits-plain z = rw (c.long, e) (sym (choose_true _ _ _ (eq-eqb (lists x l) 0 (sym c.listed ∙ z))))

  pub fits-listed : (s.lists ≡ 0 → ⊥) → leb (s.elements - s.lists) n ≡ length_fits x l m
  unfolding length_fits
  fits-listed d = rw (c.long, c.listed, e) (sym (choose_false _ _ _ (ne_eqb (lists x l) 0 (λ z. d (c.listed ∙ z)))))
