-- What a contract sees of an order, and of what is kept in one.
use Rattle.std.specs.Prelude.{ℕ, List, refl}
use Rattle.std.specs.Coded.{Coded, code_by, coded×, coded_list, coded_ℕ}

-- what it has, the first one first, and how many there may be
pub record Queued (X : Type 0) : Type 0 where
  pub items : List X
  pub room : ℕ

module _ {X : Type 0} where
  abbrev pub queued : List X → ℕ → Queued X
  queued xs n = record { items = xs; room = n }

  abbrev pub queued_code : Coded X → Coded (Queued X)
  queued_code c = code_by (List X × ℕ) (coded× (coded_list c) coded_ℕ) (λ q. (q.items, q.room)) (λ p. queued p.0 p.1) (λ _. refl)
