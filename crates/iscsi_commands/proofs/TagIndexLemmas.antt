-- The places of the live commands in the log by tag.
use Rattle.std.proofs.Common.{◌≡◌, ◌≢◌, ℕ, ◌+◌, ◌<◌, ◌≤◌, Bool, true, false, List, [], length, get_or, set, take, refl, ◌∙◌, arith}
use Rattle.std.specs.List.{remove, insert}
use Rattle.std.proofs.lemmas.Bool.Decides.{nat_tests}
use Rattle.std.proofs.lemmas.List.{get_or-take, get_or_default, length-take, length-set, get_or-set_same, get_or-set_other}
use Rattle.std.proofs.lemmas.List.Edits.{length-remove, get_or-remove_below, get_or-remove_above}
use Rattle.iscsi_slots.specs.Places.{AreAscending}
use Rattle.iscsi_slots.specs.Slots.{times}
use Rattle.iscsi_slots.proofs.SlotLemmas.{stands, times_at, times_remove, times_insert}
use Rattle.iscsi_slots.proofs.SortedLemmas.{removed_up, inserted_up}
use Rattle.iscsi_commands.specs.declared.entry.Entry.{Entry}
use Rattle.iscsi_commands.specs.Log.{NOTHING, entry_at, tag_at, IsLiveAt, ended, group_of, AreTagged}
use Rattle.iscsi_commands.proofs.LogLemmas.{live_within, group_below}

-- ---- keys that are the same at each element

-- an order by one key is one by another that tells the same of each element
pub same_order : (key other : ℕ → ℕ) (xs : List ℕ) → ((i : ℕ) (d : ℕ) → i < length xs → other (get_or xs i d) ≡ key (get_or xs i d)) → AreAscending key xs → AreAscending other xs
same_order key other xs same up i j d lt l = grind (arith, same i d, same j d, up i j d)

-- a group that is marked stays so as another one, or itself, is marked
pub mark_stays : (crowded : List Bool) (group n : ℕ) → group < length crowded → get_or crowded n false ≡ true → get_or (set crowded group true) n false ≡ true
mark_stays crowded group n inside is = grind (arith, get_or-set_same crowded group true false, get_or-set_other crowded group n true false)

-- no command
pub none_tagged : (places : List ℕ) (crowded : List Bool) → length places ≡ 4096 → length crowded ≡ 4096 → AreTagged [] places crowded []
none_tagged places crowded size groups = grind arith

-- ---- the log up to a place

before_at : (log : List Entry) (k j : ℕ) → j < k → entry_at (take k log) j ≡ entry_at log j
before_at log k j l = get_or-take k log j NOTHING l

pub before : (log : List Entry) (k j : ℕ) → IsLiveAt (take k log) j → j < k
before log k j live = let within = live_within (take k log) j live in let long = length-take k log in omega (arith, within, long)

module _ {log : List Entry} {places : List ℕ} {crowded : List Bool} {others : List ℕ} (tagged : AreTagged log places crowded others) where
  -- each of the others is live
  pub other_live : (i : ℕ) → i < length others → IsLiveAt log (get_or others i 0)
  other_live i l = tagged.are_live (get_or others i 0) (times_at others i l)

  pub other_within : (i : ℕ) → i < length others → get_or others i 0 < length log
  other_within i l = live_within log (get_or others i 0) (other_live i l)

  pub place_below : (itt : ℕ) → group_of itt < length places
  place_below itt = let size = tagged.size in let below = group_below itt in omega (arith, size, below)

  module _ (itt at : ℕ) (below : (i : ℕ) → i < at → tag_at log (get_or others i 0) < itt) (above : (i : ℕ) → at ≤ i → i < length others → itt ≤ tag_at log (get_or others i 0)) where
    -- one of the others with the tag stands where the search for it ends
    pub other_at : (k : ℕ) → 1 ≤ times k others → tag_at log k ≡ itt → (at < length others) × (get_or others at 0 ≡ k)
    other_at k some is = let s = stands k others some in grind (arith, s.inside, s.there, below s.place, above at, tagged.sorted at s.place 0)

    -- where that isn't one with the tag, and the place of its group has none, no live command has it
    pub no_tagged : (IsLiveAt log (get_or places (group_of itt) 0) → tag_at log (get_or places (group_of itt) 0) ≢ itt) → (at < length others → tag_at log (get_or others at 0) ≢ itt) → (k : ℕ) → IsLiveAt log k → tag_at log k ≢ itt
    no_tagged other_first other_found k live is = grind (arith, tagged.known k live, other_at k)

  -- none of them stands at two places
  twice : (at : ℕ) → at < length others → (j : ℕ) → get_or others at 0 ≡ j → 1 ≤ times j (remove others at) → ⊥
  twice at l j there some =
      let s = stands j (remove others at) some in
      grind (arith, length-remove others at l, get_or-remove_below, get_or-remove_above, tagged.sorted s.place at 0, tagged.sorted at (s.place + 1) 0)

  -- ---- a command leaves

  module _ (k : ℕ) (live : IsLiveAt log k) where
    was : (j : ℕ) → IsLiveAt (set log k (ended (entry_at log k))) j → (j ≢ k) × IsLiveAt log j
    was j is = grind (arith, get_or-set_same, get_or-set_other, live_within log k live)

    pub same_tag : (j : ℕ) → tag_at (set log k (ended (entry_at log k))) j ≡ tag_at log j
    same_tag j = grind (arith, get_or-set_same, get_or-set_other, live_within log k live)

    -- a command whose group isn't marked isn't among the others
    pub not_other : get_or crowded (group_of (tag_at log k)) false ≡ false → times k others ≡ 0
    not_other unmarked = grind (arith, tagged.marked k)

    -- those that are left among the others are all of them but this one
    without : (left : List ℕ) → ((j : ℕ) → j ≢ k → times j left ≡ times j others) → (1 ≤ times k left → ⊥) → AreAscending (tag_at log) left → AreTagged (set log k (ended (entry_at log k))) places crowded left
    without left same none up = grind (arith, nat_tests, was, same_tag, get_or-set_other, same_order)

    pub left_first : times k others ≡ 0 → AreTagged (set log k (ended (entry_at log k))) places crowded others
    left_first none = without others (λ j apart. refl) (λ some. omega (arith, none, some)) tagged.sorted

    pub left_other : (at : ℕ) → at < length others → get_or others at 0 ≡ k → AreTagged (set log k (ended (entry_at log k))) places crowded (remove others at)
    left_other at l there =
        without (remove others at) (λ j apart. grind (arith, nat_tests, times_remove j others at l)) (twice at l k there)
        (removed_up (tag_at log) others at l tagged.sorted)

-- ---- the last ones go, none of which is live

pub tagged_shorter : (log : List Entry) (n : ℕ) {places : List ℕ} {crowded : List Bool} {others : List ℕ} → AreTagged log places crowded others → ((k : ℕ) → IsLiveAt log k → k < n) → AreTagged (take n log) places crowded others
tagged_shorter log n {places} {crowded} {others} tagged below =
    let same : (j : ℕ) → j < n → entry_at (take n log) j ≡ entry_at log j = λ j l. before_at log n j l in
    let other_below : (j : ℕ) → 1 ≤ times j others → j < n = λ j some. below j (tagged.are_live j some) in
    record {
      size = tagged.size;
      groups = tagged.groups;
      known = λ j live other. grind (arith, before log n j live, same j, tagged.known j);
      are_live = λ j some. grind (arith, same j, other_below j some, tagged.are_live j some);
      sorted = same_order (tag_at log) (tag_at (take n log)) others
          (λ i d l. grind (arith, get_or_default others i d 0 l, times_at others i l, other_below (get_or others i 0), same (get_or others i 0))) tagged.sorted;
      marked = λ j some. grind (arith, same j, other_below j some, tagged.marked j some);
    }

-- ---- a command enters

module _ (log : List Entry) {places : List ℕ} {crowded : List Bool} {others : List ℕ} (k : ℕ) (tagged : AreTagged (take k log) places crowded others) (inside : k < length log) (live : IsLiveAt log k) where
  -- what stands in the longer part of the log
  now : (j : ℕ) → (j < k → entry_at (take (k + 1) log) j ≡ entry_at (take k log) j) × (j < k → entry_at (take k log) j ≡ entry_at log j) × (j ≡ k → entry_at (take (k + 1) log) j ≡ entry_at log k)
  now j = grind (arith, before_at log (k + 1) j, before_at log k j)

  pub other_before : (j : ℕ) → 1 ≤ times j others → j < k
  other_before j some = before log k j (tagged.are_live j some)

  tag_same : (i d : ℕ) → i < length others → (tag_at log (get_or others i d) ≡ tag_at (take k log) (get_or others i d)) × (tag_at (take (k + 1) log) (get_or others i d) ≡ tag_at (take k log) (get_or others i d))
  tag_same i d l = grind (arith, get_or_default others i d 0 l, times_at others i l, other_before (get_or others i 0), now (get_or others i 0))

  pub sorted_before : AreAscending (tag_at log) others
  sorted_before = same_order (tag_at (take k log)) (tag_at log) others (λ i d l. (tag_same i d l).0) tagged.sorted

  sorted_more : AreAscending (tag_at (take (k + 1) log)) others
  sorted_more = same_order (tag_at (take k log)) (tag_at (take (k + 1) log)) others (λ i d l. (tag_same i d l).1) tagged.sorted

  -- the place of its group is its own
  pub entered_first : (group : ℕ) → group ≡ group_of (tag_at log k) → (get_or places group 0 < k → IsLiveAt log (get_or places group 0) → group_of (tag_at log (get_or places group 0)) ≢ group) → AreTagged (take (k + 1) log) (set places group k) crowded others
  entered_first group is free =
      grind (arith, nat_tests, length-set, before, now, get_or-set_same, get_or-set_other, place_below tagged (tag_at log k), other_before, sorted_more)

  -- the place of its group is taken
  pub entered_other : (at group : ℕ) → group ≡ group_of (tag_at log k) → at ≤ length others → get_or places (group_of (tag_at log k)) 0 < k → ((i : ℕ) → i < at → tag_at log (get_or others i 0) < tag_at log k) → ((i : ℕ) → at ≤ i → i < length others → tag_at log k ≤ tag_at log (get_or others i 0))
      → ((j : ℕ) → IsLiveAt (take k log) j → tag_at log j ≢ tag_at log k) → AreTagged (take (k + 1) log) places (set crowded group true) (insert others at k)
  entered_other at group is_group le taken below above unused = record {
    size = tagged.size;
    groups = length-set crowded group true ∙ tagged.groups;
    known = λ j m other. grind (arith, nat_tests, before log (k + 1) j m, now j, tagged.known j, times_insert j others at k le);
    are_live = λ j some. grind (arith, nat_tests, times_insert j others at k le, other_before j, now j, tagged.are_live j);
    sorted = inserted_up (tag_at (take (k + 1) log)) others at k sorted_more le
        (λ i d l. grind (arith, get_or_default others i d 0, tag_same i 0, below i l, now k))
        (λ i d from l. grind (arith, get_or_default others i d 0 l, tag_same i 0 l, above i from l, now k, unused, tagged.are_live, times_at));
    marked = λ j some. grind (arith, nat_tests, times_insert j others, other_before j, now j, tagged.marked j, mark_stays, get_or-set_same, group_below);
  }
