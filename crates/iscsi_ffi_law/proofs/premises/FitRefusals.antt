-- What it shows that a request isn't refused, and that a connection isn't lost.
use Rattle.std.proofs.Common.{◌≡◌, ℕ, ◌+◌, ◌<◌, ◌==◌, ◌||◌, not, cond, nat_le, Bool, true, false, List, [], ◌∷◌, filter, Some, None, refl, sym}
use Rattle.std.specs.List.{list_any}
use Rattle.std.proofs.lemmas.Bool.{false≢true, leb-false}
use Rattle.iscsi_rules.specs.rules.Settings.{is_known}
use Rattle.iscsi_rules.specs.rules.Trace.{first_of}
use Rattle.iscsi_outbox_rules.specs.rules.Boxes.{Link}
use Rattle.iscsi_outbox_rules.specs.rules.Words.{may_take}
use Rattle.iscsi_ffi_rules.specs.declared.refusal.Refusal.TheVariants.{Busy, Exhausted, NotJoined, UnknownConnection}
use Rattle.iscsi_ffi_rules.specs.rules.Calls.{Interface}
use Rattle.iscsi_ffi_rules.specs.rules.Run.{is_joined, is_lost, kept_back, refusal_of}
use Rattle.iscsi_ffi_rules.specs.rules.Sides.{Side}

-- ---- what an arrival that isn't refused shows

pub record IsTakenIn (i : Interface) (r : Side) (cid : ℕ) : Type 0 where
  pub known : is_known cid i.outbox.session.conns ≡ true
  pub joined : is_joined r cid ≡ true
  pub events : r.both.event + kept_back i.outbox.session < i.outbox.session.events
  pub room : may_take i.outbox r.both.box ≡ true

pub taken_in : (i : Interface) (r : Side) (cid : ℕ) → refusal_of i r cid ≡ None → IsTakenIn i r cid
taken_in i r cid is = by_tests (is_known cid i.outbox.session.conns) (is_joined r cid) (nat_le i.outbox.session.events (r.both.event + kept_back i.outbox.session)) (may_take i.outbox r.both.box) refl refl refl refl is
  where
    by_tests : (a b c d : Bool) → is_known cid i.outbox.session.conns ≡ a → is_joined r cid ≡ b → nat_le i.outbox.session.events (r.both.event + kept_back i.outbox.session) ≡ c → may_take i.outbox r.both.box ≡ d
        → cond (not a) (Some UnknownConnection) (cond (not b) (Some NotJoined) (cond c (Some Exhausted) (cond (not d) (Some Busy) None))) ≡ None → IsTakenIn i r cid
    by_tests true true false true ka kb kc kd e = record { known = ka; joined = kb; events = leb-false i.outbox.session.events (r.both.event + kept_back i.outbox.session) kc; room = kd }
    by_tests false b c d ka kb kc kd e = absurd cc
    by_tests true false c d ka kb kc kd e = absurd cc
    by_tests true true true d ka kb kc kd e = absurd cc
    by_tests true true false false ka kb kc kd e = absurd cc

-- ---- a connection that isn't lost is there

pub link_there : (r : Side) (cid : ℕ) → is_lost r cid ≡ false → list_any (λ (l : Link). l.conn == cid) r.both.box.links ≡ true
link_there r cid kept = by_links r.both.box.links kept
  where
    by_links : (links : List Link) → elim (first_of (filter (λ (l : Link). l.conn == cid) links)) [ Some l ↦ l.lost | None ↦ true ] ≡ false → list_any (λ (l : Link). l.conn == cid) links ≡ true
    by_links [] k = absurd (false≢true (sym k))
    by_links (l ∷ links) k = by_first (by_links links) (l.conn == cid) k
      where
        by_first : (elim (first_of (filter (λ (m : Link). m.conn == cid) links)) [ Some m ↦ m.lost | None ↦ true ] ≡ false → list_any (λ (m : Link). m.conn == cid) links ≡ true) → (v : Bool)
            → elim (first_of (cond v (l ∷ filter (λ (m : Link). m.conn == cid) links) (filter (λ (m : Link). m.conn == cid) links))) [ Some m ↦ m.lost | None ↦ true ] ≡ false → (v || list_any (λ (m : Link). m.conn == cid) links) ≡ true
        by_first further true e = refl
        by_first further false e = further e
