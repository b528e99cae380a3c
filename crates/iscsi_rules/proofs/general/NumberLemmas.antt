-- Numbers, as the wire shows them, and how they compare.
use Rattle.std.proofs.Common.{◌<◌, ◌==◌, ◌^◌, arith, false, ℕ, ◌≡◌, ◌≤◌, ◌+◌, ◌-◌, nat_le, nat_lt, true, ◌%◌, ◌-ℤ◌, int_lt, pos, refl, List, [], ◌∷◌, cond}
use Rattle.std.specs.Ordering.{int_eq}
use Rattle.std.specs.List.{list_all, list_any}
use Rattle.iscsi_wire.specs.Serial.{lift, wire}

-- ---- on the wire

-- a number is shown as what it was lifted from
pub wire-lift : (e w : ℕ) → wire (lift e w) ≡ wire w
wire-lift e w = omega arith

-- a number that goes up by one, on the wire
pub wire-next : (n : ℕ) → wire (wire n + 1) ≡ wire (n + 1)
wire-next n = omega arith

-- ---- by order

-- the numbers up to MaxCmdSN
pub within_window : (e n long unfinished : ℕ) → 1 ≤ e → unfinished ≤ long → nat_le n (e + long - 1 - unfinished) ≡ nat_lt n (e + (long - unfinished))
within_window e n long unfinished some few = grind arith

-- the number of the request that turned last, by what the wire shows
pub last_number : (e n sn : ℕ) → 2 ^ 32 ≤ e → n + 1 ≡ e → wire sn ≡ wire n → lift e sn ≡ n
last_number e n sn big next shows = omega (arith, next, shows)

-- how far a number is ahead
pub ahead_by : (e w : ℕ) → 2 ^ 32 ≤ e → e < lift e w → (w + (2 ^ 32 - wire e)) % 2 ^ 32 ≡ lift e w - e
ahead_by e w big ahead = omega (arith, big, ahead)

pub position_lt : (x y f : ℕ) → int_lt (pos x -ℤ pos f) (pos y -ℤ pos f) ≡ nat_lt x y
position_lt x y f = grind arith

pub position_eq : (x y f : ℕ) → int_eq (pos x -ℤ pos f) (pos y -ℤ pos f) ≡ (x == y)
position_eq x y f = grind arith

pub none_above : (k : ℕ) (ts : List ℕ) → list_all (λ u. nat_lt k u) ts ≡ true → list_any (λ t. t == k) ts ≡ false
none_above k [] h = refl
none_above k (t ∷ ts) h = grind (arith, none_above k ts)

pub one_unit : (n u : ℕ) → cond (n == u) 1 0 + cond (nat_le (u + 1) n) 1 0 ≤ cond (nat_le u n) 1 0
one_unit n u = grind arith

-- what arrived before did so before the next event too
pub later_event : (event taken : ℕ) → nat_lt event taken ≡ true → nat_lt event (taken + 1) ≡ true
later_event event taken before = grind arith
