-- What is due enters, one after the other.
use Rattle.std.proofs.Common.{◌≡◌, ◌<◌, ℕ, zero, suc, ◌+◌, ◌∙◌, not, true, false, List, [], ◌∷◌, ◌++◌, Option, Some, None, refl, sym, ap, subst, arith, count_by, if◌then◌else◌, add-one, add_comm, append-nil, append_assoc, IfSome}
use Rattle.iscsi_arrivals.proofs.CountLemmas.{count-append}
use Rattle.iscsi_outbox_state.specs.declared.lane.Undue.{Undue}
use Rattle.iscsi_outbox_state.specs.declared.lane.Standing.{Standing}
use Rattle.iscsi_outbox_state.specs.declared.lane.Standing.TheVariants.{Left as IsLeft, Undue as IsUndue}
use Rattle.iscsi_outbox_state.specs.Lane.{Lane, count_in, due_behind, first_due, is_due, is_left, others_behind, without_due}
use Rattle.iscsi_lane.specs.Standings.{AreWithin}
use Rattle.iscsi_outbox_steps.specs.State.{State}
use Rattle.iscsi_outbox_steps.specs.Steps.{answer_item, enter, settle, settled}

due_within : (n : ℕ) (before xs : List Standing) (a : Undue) → AreWithin n xs → due_behind before xs ≡ Some a → a.conn < n
due_within n before [] a w e = cc
due_within n before (IsLeft c ∷ xs) a w e = due_within n (before ++ IsLeft c ∷ []) xs a w.1 e
due_within n before (IsUndue b ∷ xs) a w e =
    elim (is_due before b) as (λ t. (if t then Some b else due_behind (before ++ IsUndue b ∷ []) xs) ≡ Some a → a.conn < n) [
      | true ↦ λ e'. let same : b ≡ a = cc in subst (λ (x : Undue). x.conn < n) same w.0
      | false ↦ λ e'. due_within n (before ++ IsUndue b ∷ []) xs a w.1 e'
    ] e

pub first_within : (v : Lane) (a : Undue) → AreWithin v.conns v.items → first_due v ≡ Some a → a.conn < v.conns
first_within v a w e = due_within v.conns [] v.items a w e

one_goes : (before xs : List Standing) (a : Undue) → due_behind before xs ≡ Some a → count_by (λ x. not (is_left x)) before + count_by (λ x. not (is_left x)) xs ≡ 1 + count_by (λ x. not (is_left x)) (others_behind before xs)
one_goes before [] a e = cc
one_goes before (IsLeft c ∷ xs) a e =
    let rest = one_goes (before ++ IsLeft c ∷ []) xs a e in
    let more = count-append (λ (x : Standing). not (is_left x)) before (IsLeft c ∷ []) in
    let cons = count-append (λ (x : Standing). not (is_left x)) (IsLeft c ∷ []) xs in
    omega (arith, rest, more, cons)
one_goes before (IsUndue b ∷ xs) a e =
    let cons = count-append (λ (x : Standing). not (is_left x)) (IsUndue b ∷ []) xs in
    elim (is_due before b) as (λ t. (if t then Some b else due_behind (before ++ IsUndue b ∷ []) xs) ≡ Some a
    → count_by (λ x. not (is_left x)) before + count_by (λ x. not (is_left x)) (IsUndue b ∷ xs) ≡ 1 + count_by (λ x. not (is_left x)) (if t then before ++ xs else others_behind (before ++ IsUndue b ∷ []) xs)) [
      | true ↦ λ e'. let both = count-append (λ (x : Standing). not (is_left x)) before xs in omega (arith, both, cons)
      | false ↦ λ e'.
          let rest = one_goes (before ++ IsUndue b ∷ []) xs a e' in
          let more = count-append (λ (x : Standing). not (is_left x)) before (IsUndue b ∷ []) in
          omega (arith, rest, more, cons)
    ] e

-- one answer less waits
pub due_counts : (v : Lane) (a : Undue) → first_due v ≡ Some a → count_in (λ x. not (is_left x)) v ≡ 1 + count_in (λ x. not (is_left x)) (without_due v)
due_counts v a e = let one = one_goes [] v.items a e in omega (arith, one)

settled_more : (n : ℕ) (s : State) (a : Undue) → first_due s.lane ≡ Some a → settled (suc n) s ≡ settled n (enter a.conn (answer_item a) (record s { lane = without_due s.lane }))
settled_more n s a e = ap (λ (o : Option Undue). elim o as (λ (q : Option Undue). State) [ Some b ↦ settled n (enter b.conn (answer_item b) (record s { lane = without_due s.lane })) | None ↦ s ]) e

settled_none : (n : ℕ) (s : State) → first_due s.lane ≡ None → settled n s ≡ s
settled_none zero s e = refl
settled_none (suc n) s e = ap (λ (o : Option Undue). elim o as (λ (q : Option Undue). State) [ Some b ↦ settled n (enter b.conn (answer_item b) (record s { lane = without_due s.lane })) | None ↦ s ]) e

-- the rest gives the same
pub settle_more : (s : State) (a : Undue) → first_due s.lane ≡ Some a → settle (enter a.conn (answer_item a) (record s { lane = without_due s.lane })) ≡ settle s
settle_more s a e =
    let n = count_in (λ x. not (is_left x)) (without_due s.lane) in
    let l = due_counts s.lane a e in
    sym (ap (λ k. settled k s) (l ∙ add_comm 1 n ∙ add-one n) ∙ settled_more n s a e)

pub settle_done : (s : State) → first_due s.lane ≡ None → settle s ≡ s
settle_done s e = settled_none (count_in (λ x. not (is_left x)) s.lane) s e

-- where none is due, none goes
none_goes : (before xs : List Standing) → due_behind before xs ≡ None → others_behind before xs ≡ before ++ xs
none_goes before [] e = sym (append-nil before)
none_goes before (IsLeft c ∷ xs) e = none_goes (before ++ IsLeft c ∷ []) xs e ∙ append_assoc before (IsLeft c ∷ []) xs
none_goes before (IsUndue b ∷ xs) e =
    elim (is_due before b) as (λ t. (if t then Some b else due_behind (before ++ IsUndue b ∷ []) xs) ≡ None
    → (if t then before ++ xs else others_behind (before ++ IsUndue b ∷ []) xs) ≡ before ++ IsUndue b ∷ xs) [
      | true ↦ λ e'. cc
      | false ↦ λ e'. none_goes (before ++ IsUndue b ∷ []) xs e' ∙ append_assoc before (IsUndue b ∷ []) xs
    ] e

pub stays : (v : Lane) → first_due v ≡ None → without_due v ≡ v
stays v e = ap (λ xs. record v { items = xs }) (none_goes [] v.items e)

pub some_within : (v : Lane) (n : ℕ) (o : Option Undue) → AreWithin v.conns v.items → v.conns ≡ n → first_due v ≡ o → IfSome o (λ a. a.conn < n)
some_within v n None w same e = tt
some_within v n (Some a) w same e = let l = first_within v a w e in omega (arith, l, same)
