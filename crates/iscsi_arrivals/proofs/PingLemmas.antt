-- Where a ping stands among PDUs.
use Rattle.std.proofs.Common.{◌≡◌, ℕ, ◌+◌, ◌==◌, not, cond, Bool, true, false, List, [], ◌∷◌, ◌++◌, length, count_by, position, Some, None, refl, ap, sym, ◌∙◌, arith, lt-ltb, le-ltb, true≢false, append-nil}
use Rattle.std.specs.List.{position_or_len}
use Rattle.std.proofs.lemmas.List.{length-append}
use Rattle.iscsi_outbox_rules.specs.rules.Boxes.{Pdu, Replies, Owns, Pings, Notices, Handed}
use Rattle.iscsi_outbox_rules.specs.rules.Handing.{is_ping}
use Rattle.iscsi_outbox_rules.specs.rules.Run.{is_ping_with}
use Rattle.iscsi_arrivals.proofs.CountLemmas.{count-cons}

-- ---- the place of the first one that passes a test

module _ {A : Type 0} (p : A → Bool) where
  -- where none passes, the first doesn't, and none of the others
  pub none_counted : (x : A) (xs : List A) → count_by p (x ∷ xs) ≡ 0 → (p x ≡ false) × (count_by p xs ≡ 0)
  none_counted x xs none = by_test (p x) refl
    where
      by_test : (v : Bool) → p x ≡ v → (p x ≡ false) × (count_by p xs ≡ 0)
      by_test true is =
          let one : count_by p (x ∷ xs) ≡ 1 + count_by p xs = count-cons p x xs ∙ ap (λ (v : Bool). cond v 1 0 + count_by p xs) is in
          absurd (omega (arith, one, none))
      by_test false is =
          let rest : count_by p (x ∷ xs) ≡ 0 + count_by p xs = count-cons p x xs ∙ ap (λ (v : Bool). cond v 1 0 + count_by p xs) is in
          (is, omega (arith, rest, none))

  passed : (xs ys : List A) → count_by p xs ≡ 0 → position_or_len p (xs ++ ys) ≡ length xs + position_or_len p ys
  passed [] ys none = omega arith
  passed (x ∷ xs) ys none =
      let parts = none_counted x xs none in
      let rest : position_or_len p (xs ++ ys) ≡ length xs + position_or_len p ys = passed xs ys parts.1 in
      let here : position_or_len p (x ∷ (xs ++ ys)) ≡ 1 + position_or_len p (xs ++ ys) = ap (λ (v : Bool). cond (not v) (1 + position_or_len p (xs ++ ys)) 0) parts.0 in
      here ∙ (let sum : 1 + position_or_len p (xs ++ ys) ≡ length (x ∷ xs) + position_or_len p ys = omega (arith, rest) in sum)

  pub position_none : (xs : List A) → count_by p xs ≡ 0 → position p xs ≡ None
  position_none xs none =
      let far : position_or_len p xs ≡ length xs + 0 = ap (position_or_len p) (sym (append-nil xs)) ∙ passed xs [] none in
      ap (λ (v : Bool). cond v (Some (position_or_len p xs)) None) (le-ltb (position_or_len p xs) (length xs) (omega (arith, far)))

  pub position_some : (xs : List A) (y : A) (ys : List A) → count_by p xs ≡ 0 → p y ≡ true → position p (xs ++ y ∷ ys) ≡ Some (length xs)
  position_some xs y ys none is =
      let first : position_or_len p (y ∷ ys) ≡ 0 = ap (λ (v : Bool). cond (not v) (1 + position_or_len p ys) 0) is in
      let there : position_or_len p (xs ++ y ∷ ys) ≡ length xs + position_or_len p (y ∷ ys) = passed xs (y ∷ ys) none in
      let at : position_or_len p (xs ++ y ∷ ys) ≡ length xs = omega (arith, first, there) in
      let long : length (xs ++ y ∷ ys) ≡ length xs + length (y ∷ ys) = length-append xs (y ∷ ys) in
      ap (λ (v : Bool). cond v (Some (position_or_len p (xs ++ y ∷ ys))) None) (lt-ltb (position_or_len p (xs ++ y ∷ ys)) (length (xs ++ y ∷ ys)) (omega (arith, at, long)))
      ∙ ap (λ (n : ℕ). Some n) at

-- ---- pings

abbrev ping_in : Pdu → Bool
ping_in x = elim x [ Pings tag ↦ true | Replies reply ↦ false | Owns p ↦ false | Notices ↦ false ]

abbrev tagged_in : ℕ → Pdu → Bool
tagged_in tag x = elim x [ Pings t ↦ t == tag | Replies reply ↦ false | Owns p ↦ false | Notices ↦ false ]

untagged : (tag : ℕ) (x : Pdu) → ping_in x ≡ false → tagged_in tag x ≡ false
untagged tag (Pings t) h = absurd (true≢false h)
untagged tag (Replies reply) h = refl
untagged tag (Owns p) h = refl
untagged tag Notices h = refl

pub is_ping_by : (h : Handed) (tag : ℕ) → h.out.pdu ≡ Pings tag → is_ping h ≡ true
is_ping_by h tag is = ap ping_in is

pub tag_is : (h : Handed) (tag t : ℕ) → h.out.pdu ≡ Pings t → is_ping_with tag h ≡ (t == tag)
tag_is h tag t is = ap (tagged_in tag) is

-- where there is no ping, none has this tag
pub none_tagged : (tag : ℕ) (hs : List Handed) → count_by is_ping hs ≡ 0 → count_by (is_ping_with tag) hs ≡ 0
none_tagged tag [] none = refl
none_tagged tag (h ∷ hs) none =
    let parts = none_counted is_ping h hs none in
    let rest : count_by (is_ping_with tag) hs ≡ 0 = none_tagged tag hs parts.1 in
    let all : count_by (is_ping_with tag) (h ∷ hs) ≡ 0 + count_by (is_ping_with tag) hs =
    count-cons (is_ping_with tag) h hs ∙ ap (λ (v : Bool). cond v 1 0 + count_by (is_ping_with tag) hs) (untagged tag h.out.pdu parts.0) in
    omega (arith, all, rest)
