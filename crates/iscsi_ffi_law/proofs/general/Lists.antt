-- Lists that connections have, and how often something stands in them.
use Rattle.std.proofs.Common.{◌≡◌, ℕ, zero, suc, ◌+◌, ◌<◌, ◌≤◌, Bool, List, [], ◌∷◌, length, count_by, replicate, set, None, refl, arith}
use Rattle.iscsi_rules.proofs.general.CountLemmas.{count-cons}
use Rattle.iscsi_requests.specs.Conns.{of_conn}
use Rattle.iscsi_ffi_law.specs.Uses.{count_lists, is_place}

module _ {X : Type 0} where
  -- nothing stands in new ones
  pub conn_new : (n p : ℕ) → of_conn {X = X} p (replicate n []) ≡ []
  conn_new zero zero = refl
  conn_new zero (suc p) = refl
  conn_new (suc n) zero = refl
  conn_new (suc n) (suc p) = conn_new n p

  pub lists_new : (q : X → Bool) (n : ℕ) → count_lists q (replicate n []) ≡ 0
  lists_new q zero = refl
  lists_new q (suc n) = let rest = lists_new q n in omega (arith, rest)

  -- one of them becomes another one
  pub lists_set : (q : X → Bool) (lists : List (List X)) (p : ℕ) (xs : List X) → p < length lists → count_lists q (set lists p xs) + count_by q (of_conn p lists) ≡ count_lists q lists + count_by q xs
  lists_set q [] p xs lt = absurd (omega (arith, lt))
  lists_set q (ys ∷ lists) zero xs lt = omega arith
  lists_set q (ys ∷ lists) (suc p) xs lt = let rest = lists_set q lists p xs (omega (arith, lt)) in omega (arith, rest)

  pub lists_at : (q : X → Bool) (lists : List (List X)) (p : ℕ) → count_by q (of_conn p lists) ≤ count_lists q lists
  lists_at q [] zero = omega arith
  lists_at q [] (suc p) = omega arith
  lists_at q (ys ∷ lists) zero = omega arith
  lists_at q (ys ∷ lists) (suc p) = let rest = lists_at q lists p in omega (arith, rest)

pub none_placed : (place n : ℕ) → count_by (is_place place) (replicate n None) ≡ 0
none_placed place zero = refl
none_placed place (suc n) = let rest = none_placed place n in omega (arith, rest, count-cons (is_place place) None (replicate n None))
