-- How much each connection has, as it is counted.
use Rattle.std.proofs.Common.{◌≡◌, ℕ, zero, suc, ◌+◌, ◌-◌, ◌<◌, ◌≤◌, List, [], ◌∷◌, ◌++◌, length, map, get_or, set, replicate, Option, Some, None, refl, ap, sym, ◌∙◌, arith}
use Rattle.std.proofs.lemmas.List.{get_or_read, length-map, length_push, map-set}
use Rattle.iscsi_lists.specs.Lists.{AreApart, Listed, counted, linked_in, total, with_last}
use Rattle.iscsi_requests.specs.Conns.{of_conn}
use Rattle.iscsi_requests.specs.Kept.{AreCounted, slots_at, values_in}
use Rattle.iscsi_requests.proofs.ValueLemmas.{conn_values, long_values}

abbrev pub counts_of : List (List ℕ) → List ℕ
counts_of lists = map (λ (slots : List ℕ). length slots) lists

read_count : (lists : List (List ℕ)) (conn : ℕ) → get_or (counts_of lists) conn 0 ≡ length (get_or lists conn [])
read_count [] zero = refl
read_count [] (suc conn) = refl
read_count (slots ∷ lists) zero = refl
read_count (slots ∷ lists) (suc conn) = read_count lists conn

at_most_all : (lists : List (List ℕ)) (conn : ℕ) → length (get_or lists conn []) ≤ total lists
at_most_all [] zero = omega arith
at_most_all [] (suc conn) = omega arith
at_most_all (slots ∷ lists) zero = omega arith
at_most_all (slots ∷ lists) (suc conn) = let rest = at_most_all lists conn in omega (arith, rest)

none_of : (n : ℕ) → counts_of (replicate {A = List ℕ} n []) ≡ replicate n 0
none_of zero = refl
none_of (suc n) = ap (λ ns. 0 ∷ ns) (none_of n)

pub none_counted : (conns room : ℕ) (counts : List ℕ) (kept : Listed (Option ℕ)) → counts ≡ replicate conns 0
    → kept ≡ record { free = counted 1 room; lists = replicate conns []; room = room; values = replicate (room + 1) None } → AreCounted counts kept
none_counted conns room counts kept zeros none = zeros ∙ sym (none_of conns) ∙ sym (ap (λ (u : Listed (Option ℕ)). counts_of u.lists) none)

module _ (counts : List ℕ) (kept : Listed (Option ℕ)) (are : AreCounted counts kept) (conn : ℕ) where
  is_count : get_or counts conn 0 ≡ length (slots_at kept conn)
  is_count = ap (λ ns. get_or ns conn 0) are ∙ read_count kept.lists conn

  pub counted_at : get_or counts conn 0 ≡ length (of_conn conn (values_in None kept.values kept.lists))
  counted_at =
      is_count ∙ sym (length-map (slots_at kept conn) (λ s. get_or kept.values s None)) ∙ sym (ap (λ xs. length xs) (conn_values None kept.values kept.lists conn))

  pub count_below : AreApart (linked_in kept) → get_or counts conn 0 ≤ kept.room
  count_below apart = let a = is_count in let b = at_most_all kept.lists conn in let c = apart.all in omega (arith, a, b, c)

  -- what is read there
  pub read_here : (n : ℕ) → n ≡ get_or counts conn n → conn < length (values_in None kept.values kept.lists) → n ≡ get_or counts conn 0
  read_here n is within =
      let long = ap (λ (ns : List ℕ). length ns) are ∙ length-map kept.lists (λ (slots : List ℕ). length slots) in
      let shown = long_values None kept.values kept.lists in
      get_or_read counts conn n (omega (arith, within, long, shown)) is 0

  pub one_more : (slot : ℕ) → set counts conn (get_or counts conn 0 + 1) ≡ counts_of (with_last conn slot kept.lists)
  one_more slot =
      ap (λ n. set counts conn (n + 1)) is_count
      ∙ ap (λ ns. set ns conn (length (slots_at kept conn) + 1)) are
      ∙ ap (set (counts_of kept.lists) conn) (sym (length_push (slots_at kept conn) slot))
      ∙ sym (map-set (λ (slots : List ℕ). length slots) kept.lists conn (slots_at kept conn ++ slot ∷ []))

  one_fewer : (slot : ℕ) (rest : List ℕ) → slots_at kept conn ≡ slot ∷ rest → set counts conn (get_or counts conn 0 - 1) ≡ counts_of (set kept.lists conn rest)
  one_fewer slot rest at =
      let left : get_or counts conn 0 - 1 ≡ length rest = let a = is_count in let b = ap (λ (xs : List ℕ). length xs) at in omega (arith, a, b) in
      ap (set counts conn) left ∙ ap (λ ns. set ns conn (length rest)) are ∙ sym (map-set (λ (slots : List ℕ). length slots) kept.lists conn rest)

  pub popped_counts : (first : Option ℕ) (new : Listed (Option ℕ)) → (slots_at kept conn ≡ [] → Some first ≡ None)
      → ((slot : ℕ) (rest : List ℕ) → slots_at kept conn ≡ slot ∷ rest → new ≡ record kept { free = kept.free ++ slot ∷ []; lists = set kept.lists conn rest })
      → set counts conn (get_or counts conn 0 - 1) ≡ counts_of new.lists
  popped_counts first new none state =
      elim (slots_at kept conn) as (λ slots. slots_at kept conn ≡ slots → set counts conn (get_or counts conn 0 - 1) ≡ counts_of new.lists) [
        | [] ↦ λ is. absurd (let no : Some first ≡ None = none is in cc)
        | (slot ∷ rest) ↦ λ is. one_fewer slot rest is ∙ sym (ap (λ (u : Listed (Option ℕ)). counts_of u.lists) (state slot rest is))
      ] refl
