-- Laws of slots: live slots, the lowest free slot and the free slots, what a change does to the tables, and putting back what
-- stood in a slot. Rests on Layout and Applying.
use Rattle.std.specs.Prelude.{suc, ◌<◌, ◌≡◌, List, set}
use Rattle.meaning.specs.Layout.{Slot, live, is_live}
use Rattle.meaning.specs.Applying.{lowest_free, free_slots}
use Rattle.meaning.specs.Laws.Slots.{lowest_free_lt, lowest_free-free, free_slots-come}

-- one slot fewer is free once the lowest is taken
pub come-free : {A : Type 0} (t : List (Slot A)) (a : A) → 0 < free_slots t
    → suc (free_slots (set t (lowest_free t) (live a))) ≡ free_slots t
unfolding is_live
come-free t a h = free_slots-come t (lowest_free t) a (lowest_free_lt t h) (rw (lowest_free-free t))
