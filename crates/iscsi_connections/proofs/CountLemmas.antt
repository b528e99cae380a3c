-- What is kept of a connection, at the place of the first one with its CID.
use Rattle.std.proofs.Common.{◌≡◌, ℕ, zero, suc, ◌+◌, ◌-◌, ◌≤◌, ◌==◌, cond, List, [], ◌∷◌, length, get_or, set, position, Option, Some, None, refl, arith}
use Rattle.std.proofs.lemmas.Bool.Decides.{nat_tests}
use Rattle.iscsi_wire.specs.Serial.{wire}
use Rattle.iscsi_connections.specs.Connected.{stat_sn_on, count_reply, counted_on}

abbrev place_of : ℕ → List (ℕ × ℕ) → Option ℕ
place_of cid conns = position (λ (conn : ℕ × ℕ). conn.0 == cid) conns

-- ---- StatSNs

-- the first connection with the CID, by its place
pub count_reply-at : (conns : List (ℕ × ℕ)) (cid i : ℕ) (d : ℕ × ℕ) → place_of cid conns ≡ Some i → set conns i ((get_or conns i d).0, wire ((get_or conns i d).1 + 1)) ≡ count_reply cid conns
count_reply-at [] cid i d found = absurd cc
count_reply-at (c ∷ conns) cid zero d found = grind (arith, nat_tests)
count_reply-at (c ∷ conns) cid (suc i) d found = grind (arith, nat_tests, count_reply-at conns cid i d)

pub stat_sn_on-at : (conns : List (ℕ × ℕ)) (cid i : ℕ) (d : ℕ × ℕ) → place_of cid conns ≡ Some i → stat_sn_on cid conns ≡ wire (get_or conns i d).1
stat_sn_on-at [] cid i d found = absurd cc
stat_sn_on-at (c ∷ conns) cid zero d found = grind (arith, nat_tests)
stat_sn_on-at (c ∷ conns) cid (suc i) d found = grind (arith, nat_tests, stat_sn_on-at conns cid i d)

-- ---- a count at its place

-- none is counted for a connection that isn't there
pub uncounted : (conns : List (ℕ × ℕ)) (counts : List ℕ) (cid : ℕ) → place_of cid conns ≡ None → counted_on cid conns counts ≡ 0
uncounted [] counts cid none = refl
uncounted (c ∷ conns) [] cid none = refl
uncounted (c ∷ conns) (n ∷ counts) cid none = grind (arith, nat_tests, uncounted conns counts cid)

pub counted_place : (conns : List (ℕ × ℕ)) (counts : List ℕ) (cid i : ℕ) → place_of cid conns ≡ Some i → length counts ≡ length conns → (n : ℕ) → counted_on cid conns counts ≡ get_or counts i n
counted_place [] counts cid i found long n = absurd cc
counted_place (c ∷ conns) [] cid i found long n = absurd (omega (arith, long))
counted_place (c ∷ conns) (m ∷ counts) cid zero found long n = grind (arith, nat_tests)
counted_place (c ∷ conns) (m ∷ counts) cid (suc i) found long n = grind (arith, nat_tests, counted_place conns counts cid i)

-- a count that is another one now
changed : (conns : List (ℕ × ℕ)) (counts : List ℕ) (cid i : ℕ) → place_of cid conns ≡ Some i → length counts ≡ length conns → (n other : ℕ) → counted_on other conns (set counts i n) ≡ cond (cid == other) n (counted_on other conns counts)
changed [] counts cid i found long n other = absurd cc
changed (c ∷ conns) [] cid i found long n other = absurd (omega (arith, long))
changed (c ∷ conns) (m ∷ counts) cid zero found long n other = grind (arith, nat_tests)
changed (c ∷ conns) (m ∷ counts) cid (suc i) found long n other = grind (arith, nat_tests, changed conns counts cid i)

module _ (conns : List (ℕ × ℕ)) (counts : List ℕ) (cid i : ℕ) (found : place_of cid conns ≡ Some i) (long : length counts ≡ length conns) (n other : ℕ) (is : n ≡ get_or counts i n) where
  pub counted_up : counted_on other conns (set counts i (n + 1)) ≡ counted_on other conns counts + cond (cid == other) 1 0
  counted_up = grind (arith, nat_tests, changed conns counts cid i found long (n + 1) other, counted_place conns counts cid i found long n)

  pub counted_down : 1 ≤ n → counted_on other conns (set counts i (n - 1)) + cond (cid == other) 1 0 ≡ counted_on other conns counts
  counted_down some = grind (arith, nat_tests, changed conns counts cid i found long (n - 1) other, counted_place conns counts cid i found long n)
