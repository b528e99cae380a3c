-- What is shown of the slots of lists.
use Rattle.std.proofs.Common.{◌≡◌, ◌≢◌, ℕ, zero, suc, ◌≤◌, List, [], ◌∷◌, ◌++◌, map, drop, get_or, set, Some, None, refl, ap, sym, ◌∙◌, arith}
use Rattle.std.proofs.lemmas.List.{map-set, map_push}
use Rattle.iscsi_slots.specs.Slots.{times}
use Rattle.iscsi_lists.specs.Lists.{first_of, times_in, without, with_last}
use Rattle.iscsi_lists.proofs.WithoutLemmas.{times_same, map_without_none, without_none, without_same}
use Rattle.iscsi_waiting.proofs.MarkLemmas.{times_any}

pub first_there : (slot : ℕ) (slots : List ℕ) → first_of slots ≡ Some slot → 1 ≤ times slot slots
first_there slot [] first = absurd (cc)
first_there slot (x ∷ slots) first = let same : x ≡ slot = cc in let a = times_same slot x slots same in omega (arith, a)

pub none_first : (slots : List ℕ) → first_of slots ≡ None → slots ≡ []
none_first [] none = refl
none_first (x ∷ slots) none = absurd (cc)

-- a slot that stands in one list alone is taken out of that
pub without_once : (slot conn : ℕ) (lists : List (List ℕ)) → 1 ≤ times slot (get_or lists conn []) → times_in slot lists ≤ 1 → map (without slot) lists ≡ set lists conn (without slot (get_or lists conn []))
without_once slot zero [] there once = absurd (omega (arith, there))
without_once slot (suc conn) [] there once = absurd (omega (arith, there))
without_once slot zero (xs ∷ lists) there once = ap (λ r. without slot xs ∷ r) (map_without_none slot lists (omega (arith, there, once)))
without_once slot (suc conn) (xs ∷ lists) there once =
    let a = times_any slot conn lists in
    ap (λ r. r ∷ map (without slot) lists) (without_none slot xs (omega (arith, a, there, once)))
    ∙ ap (λ r. xs ∷ r) (without_once slot conn lists there (omega (arith, once)))

module _ {E : Type 0} where
  abbrev pub shown : (ℕ → E) → List (List ℕ) → List (List E)
  shown g lists = map (λ (slots : List ℕ). map g slots) lists

  pub map_alike : (g h : ℕ → E) (slots : List ℕ) → ((s : ℕ) → 1 ≤ times s slots → h s ≡ g s) → map h slots ≡ map g slots
  map_alike g h [] same = refl
  map_alike g h (s ∷ slots) same =
      let first : 1 ≤ times s (s ∷ slots) = (let a = times_same s s slots refl in omega (arith, a)) in
      ap (λ e. e ∷ map h slots) (same s first) ∙ ap (λ es. g s ∷ es) (map_alike g h slots (λ t there. same t (omega (arith, there))))

  pub all_alike : (g h : ℕ → E) (lists : List (List ℕ)) → ((s : ℕ) → 1 ≤ times_in s lists → h s ≡ g s) → shown h lists ≡ shown g lists
  all_alike g h [] same = refl
  all_alike g h (xs ∷ lists) same =
      ap (λ es. es ∷ shown h lists) (map_alike g h xs (λ s there. same s (omega (arith, there))))
      ∙ ap (λ ess. map g xs ∷ ess) (all_alike g h lists (λ s there. same s (omega (arith, there))))

  pub shown_at : (g : ℕ → E) (conn : ℕ) (lists : List (List ℕ)) → get_or (shown g lists) conn [] ≡ map g (get_or lists conn [])
  shown_at g zero [] = refl
  shown_at g (suc conn) [] = refl
  shown_at g zero (xs ∷ lists) = refl
  shown_at g (suc conn) (xs ∷ lists) = shown_at g conn lists

  pub shown_set : (g : ℕ → E) (lists : List (List ℕ)) (conn : ℕ) (slots : List ℕ) → shown g (set lists conn slots) ≡ set (shown g lists) conn (map g slots)
  shown_set g lists conn slots = map-set (λ (xs : List ℕ). map g xs) lists conn slots

  -- a slot comes
  module _ (g h : ℕ → E) (conn slot : ℕ) (lists : List (List ℕ)) (same : (s : ℕ) → s ≢ slot → h s ≡ g s) (fresh : times_in slot lists ≡ 0) where
    alike : shown h lists ≡ shown g lists
    alike = all_alike g h lists (λ s there. same s (λ e. let a = ap (λ n. times_in n lists) e in absurd (omega (arith, a, there, fresh))))

    pub shown_push : shown h (with_last conn slot lists) ≡ set (shown g lists) conn (get_or (shown g lists) conn [] ++ h slot ∷ [])
    shown_push =
        shown_set h lists conn (get_or lists conn [] ++ slot ∷ [])
        ∙ ap (λ es. set (shown h lists) conn es) (map_push h (get_or lists conn []) slot)
        ∙ ap (λ es. set (shown h lists) conn (es ++ h slot ∷ [])) (sym (shown_at h conn lists))
        ∙ ap (λ ess. set ess conn (get_or ess conn [] ++ h slot ∷ [])) alike

  -- a slot goes
  pub shown_out : (g : ℕ → E) (conn slot : ℕ) (lists : List (List ℕ)) → 1 ≤ times slot (get_or lists conn []) → times_in slot lists ≤ 1
      → shown g (map (without slot) lists) ≡ set (shown g lists) conn (map g (without slot (get_or lists conn [])))
  shown_out g conn slot lists there once = ap (shown g) (without_once slot conn lists there once) ∙ shown_set g lists conn (without slot (get_or lists conn []))

  -- the first one of its list goes
  pub map_drop : (g : ℕ → E) (slot : ℕ) (slots : List ℕ) → first_of slots ≡ Some slot → times slot slots ≤ 1 → map g (without slot slots) ≡ drop 1 (map g slots)
  map_drop g slot [] first once = refl
  map_drop g slot (x ∷ slots) first once =
      let same : x ≡ slot = cc in let a = times_same slot x slots same in
      ap (map g) (without_same slot x slots same ∙ without_none slot slots (omega (arith, a, once)))
