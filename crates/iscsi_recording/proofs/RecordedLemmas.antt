-- What a recording keeps, line by line.
use Rattle.std.proofs.Common.{◌≡◌, ℕ, ◌+◌, ◌-◌, ◌<◌, ◌≤◌, Bool, true, false, cond, List, [], ◌∷◌, ◌++◌, length, Option, Some, None, Ok, Err, refl, ap, ◌∙◌, subst, arith, length-append}
use Rattle.std.specs.Prelude.{◌==◌, ◌&&◌, ◌||◌, not, nat_lt, ok_or, option_and_then}
use Rattle.std.specs.List.{list_all}
use Rattle.std.proofs.lemmas.List.Folds.{list_any-append, list_all-append}
use Rattle.iscsi_rules.specs.declared.event.Event.{Event}
use Rattle.iscsi_rules.specs.rules.Settings.{is_known, are_distinct}
use Rattle.iscsi_rules.specs.rules.Agenda.{belongs}
use Rattle.iscsi_recording.specs.Grammar.{line_of}
use Rattle.iscsi_recording.specs.declared.line.Line.{Line}
use Rattle.iscsi_recording.specs.declared.line.Line.TheVariants as line
use Rattle.iscsi_recording.specs.Recorded.{Recorded, belongs_to, is_empty, IsSound, take, read_line}
use Rattle.iscsi_recording.specs.Reading.{IsSoundIn}
use Rattle.iscsi_recording.specs.declared.fault.ReplayFault.TheVariants.{BadLine, LineTooLong, TooManyLines}
use Rattle.iscsi_recording.proofs.LineLemmas.{or_false}

both : (a b : Bool) → a ≡ true → b ≡ true → (a && b) ≡ true
both true b h k = k
both false b h k = cc

pub both_parts : (a b : Bool) → (a && b) ≡ true → (a ≡ true) × (b ≡ true)
both_parts true b h = (refl, h)
both_parts false b h = cc

not_false : (b : Bool) → not b ≡ false → b ≡ true
not_false true h = refl
not_false false h = cc

pub other_way : (a b : ℕ) → (a == b) ≡ false → (b == a) ≡ false
other_way a b h = grind arith

-- a connection that comes after, of another CID
still_unknown : (cid : ℕ) (conns : List (ℕ × ℕ)) (conn : ℕ × ℕ) → not (is_known cid conns) ≡ true → (conn.0 == cid) ≡ false
    → not (is_known cid (conns ++ conn ∷ [])) ≡ true
still_unknown cid conns conn h other =
    let more : is_known cid (conns ++ conn ∷ []) ≡ (is_known cid conns || ((conn.0 == cid) || false)) =
    list_any-append (λ c. c.0 == cid) conns (conn ∷ []) in
    ap not (more ∙ ap (λ b. is_known cid conns || (b || false)) other) ∙ go (is_known cid conns) h
  where
    go : (b : Bool) → not b ≡ true → not (b || false) ≡ true
    go true k = cc
    go false k = refl

-- a CID that isn't among the connections
are_distinct-push : (conns : List (ℕ × ℕ)) (conn : ℕ × ℕ) → are_distinct conns ≡ true → is_known conn.0 conns ≡ false
    → are_distinct (conns ++ conn ∷ []) ≡ true
are_distinct-push [] conn h new = refl
are_distinct-push (c ∷ conns) conn h new =
    let parts = both_parts (not (is_known c.0 conns)) (are_distinct conns) h in
    let others = or_false (c.0 == conn.0) (is_known conn.0 conns) new in
    both (not (is_known c.0 (conns ++ conn ∷ []))) (are_distinct (conns ++ conn ∷ []))
    (still_unknown c.0 conns conn parts.0 (other_way c.0 conn.0 others.0))
    (are_distinct-push conns conn parts.1 others.1)

-- what a line keeps, of more lines
pub of_more : (n m : ℕ) (r : Recorded) → n ≤ m → IsSoundIn n r → IsSoundIn m r
of_more n m r le h = record { few = h.few; distinct = h.distinct; known = h.known; events = omega arith }

is_nil : {A : Type 0} (xs : List A) → is_empty xs ≡ true → xs ≡ []
is_nil [] h = refl
is_nil (x ∷ xs) h = cc

-- a connection more, before the first event
conn_more : (n : ℕ) (r : Recorded) (cid sn : ℕ) → IsSoundIn n r → is_empty r.events ≡ true → is_known cid r.conns ≡ false
    → length r.conns < 64 → IsSoundIn n (record r { conns = r.conns ++ (cid, sn) ∷ [] })
conn_more n r cid sn h first new room = record {
  few = simp length-append (omega arith);
  distinct = are_distinct-push r.conns (cid, sn) h.distinct new;
  known = ap (list_all (belongs_to (r.conns ++ (cid, sn) ∷ []))) (is_nil r.events first);
  events = h.events;
}

-- an event more
event_more : (n : ℕ) (r : Recorded) (e : Event) → IsSoundIn n r → belongs_to r.conns e ≡ true
    → IsSoundIn (n + 1) (record r { events = r.events ++ e ∷ [] })
event_more n r e h belongs = record {
  few = h.few;
  distinct = h.distinct;
  known = list_all-append (belongs_to r.conns) r.events (e ∷ [])
      ∙ both (list_all (belongs_to r.conns) r.events) (belongs_to r.conns e && true) h.known (both (belongs_to r.conns e) true belongs refl);
  events = simp length-append (omega arith);
}

refused_unless : (a b c : Bool) (x next : Recorded) → cond (a || (b || c)) None (Some x) ≡ Some next
    → (a ≡ false) × (b ≡ false) × (c ≡ false) × (x ≡ next)
refused_unless true b c x next h = cc
refused_unless false true c x next h = cc
refused_unless false false true x next h = cc
refused_unless false false false x next h = (refl, refl, refl, cc)

taken_if : (a : Bool) (x next : Recorded) → cond a (Some x) None ≡ Some next → (a ≡ true) × (x ≡ next)
taken_if true x next h = (refl, cc)
taken_if false x next h = cc

below_64 : (n : ℕ) → nat_lt n 64 ≡ true → n < 64
below_64 n h = grind arith

taken : (n : ℕ) (r next : Recorded) (said : Option Line) → IsSoundIn n r → option_and_then (take r) said ≡ Some next
    → IsSoundIn (n + 1) next
taken n r next None h is = cc
taken n r next (Some line.Passed) h is =
    let same : r ≡ next = cc in subst (IsSoundIn (n + 1)) same (of_more n (n + 1) r (omega arith) h)
taken n r next (Some (line.Conn cid sn)) h is =
    let parts = refused_unless (not (is_empty r.events)) (is_known cid r.conns) (not (nat_lt (length r.conns) 64)) (record r { conns = r.conns ++ (cid, sn) ∷ [] }) next is in
    subst (IsSoundIn (n + 1)) parts.3
    (of_more n (n + 1) _ (omega arith)
    (conn_more n r cid sn h (not_false _ parts.0) parts.1 (below_64 (length r.conns) (not_false _ parts.2))))
taken n r next (Some (line.Event e)) h is =
    let parts = taken_if (belongs_to r.conns e) (record r { events = r.events ++ e ∷ [] }) next is in
    subst (IsSoundIn (n + 1)) parts.1 (event_more n r e h parts.0)

line_taken : (a b : Bool) (o : Option Recorded) (n : ℕ) (next : Recorded)
    → cond a (Err TooManyLines) (cond b (Err (LineTooLong n)) (ok_or o (BadLine n))) ≡ Ok next
    → (a ≡ false) × (b ≡ false) × (o ≡ Some next)
line_taken true b o n next h = cc
line_taken false true o n next h = cc
line_taken false false None n next h = cc
line_taken false false (Some x) n next h = (refl, refl, cc)

within : (max n : ℕ) → nat_lt max n ≡ false → n ≤ max
within max n h = grind arith

-- what a line that is taken keeps
pub record IsTaken (n : ℕ) (l : List ℕ) (next : Recorded) : Type 0 where
  pub number : n ≤ 1048576
  pub short : length l ≤ 256
  pub sound : IsSoundIn n next

pub line_keeps : (n : ℕ) (r next : Recorded) (l : List ℕ) → 1 ≤ n → IsSoundIn (n - 1) r → read_line n r l ≡ Ok next → IsTaken n l next
unfolding read_line
line_keeps n r next l low h is =
    let parts = line_taken (nat_lt 1048576 n) (nat_lt 256 (length l)) (option_and_then (take r) (line_of l)) n next is in
    let same : n - 1 + 1 ≡ n = omega arith in
    record {
      number = within 1048576 n parts.0;
      short = within 256 (length l) parts.1;
      sound = subst (λ k. IsSoundIn k next) same (taken (n - 1) r next (line_of l) h parts.2);
    }

not_empty : (conns : List (ℕ × ℕ)) → is_empty conns ≡ false → 1 ≤ length conns
not_empty [] h = cc
not_empty (c ∷ conns) h = omega arith

-- a recording with a connection
pub sound_from : (r : Recorded) → IsSoundIn 1048576 r → is_empty r.conns ≡ false → IsSound r
sound_from r h some = record {
  some = not_empty r.conns some;
  few = h.few;
  distinct = h.distinct;
  known = h.known;
  events = h.events;
}
