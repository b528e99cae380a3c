-- What valid options come to.
use Rattle.std.proofs.Common.{◌≡◌, ◌≢◌, ◌<◌, ◌≤◌, ℕ, zero, suc, ◌+◌, ◌==◌, ◌&&◌, ◌||◌, not, nat_le, Bool, true, false, List, [], ◌∷◌, length, map, replicate, get_or, Some, None, Result, Ok, Err, IfOk, ◌*◌, ◌-◌, ◌^◌, refl, sym, ap, subst, arith, eq-eqb, ◌∙◌}
use Rattle.std.specs.List.{AllPairs}
use Rattle.std.proofs.lemmas.Bool.{false≢true, leb-true}
use Rattle.std.specs.Result.{result_ok}
use Rattle.std.proofs.lemmas.List.{length-replicate}
use Rattle.iscsi_arrivals.specs.Counts.{Counts, new_counts}
use Rattle.iscsi_cids.specs.Cids.{Named}
use Rattle.iscsi_links.specs.Links.{Links}
use Rattle.iscsi_outbox_state.specs.Lane.{Lane}
use Rattle.iscsi_outbox_state.specs.Waits.{Waits}
use Rattle.iscsi_outbox_steps.specs.State.{State, opened}
use Rattle.iscsi_tracked.specs.Tracked.{Tracked}
use Rattle.iscsi_wire.specs.Serial.{number_of_first}
use Rattle.iscsi_outbox.specs.declared.options.OutboxOptions.{OutboxOptions}
use Rattle.iscsi_outbox.specs.private.Kept.{IsOutbox}
use Rattle.iscsi_outbox.specs.promises.Options.{are_distinct, is_known, is_valid, is_within, lane_of, limits_of, links_of, tracked_of, waits_of}

both : (a b : Bool) → (a && b) ≡ true → (a ≡ true) × (b ≡ true)
both true b e = (refl, e)
both false b e = cc

within : (n most : ℕ) → is_within n most ≡ true → n ≤ most
within n most e = leb-true n most (both (nat_le 1 n) (nat_le n most) e).1

at_least : (n most : ℕ) → is_within n most ≡ true → 1 ≤ n
at_least n most e = leb-true 1 n (both (nat_le 1 n) (nat_le n most) e).0

neither : (a b : Bool) → (a || b) ≡ false → (a ≡ false) × (b ≡ false)
neither true b e = cc
neither false b e = (refl, e)

unlike : (cid : ℕ) (cids : List ℕ) (k d : ℕ) → is_known cid cids ≡ false → k < length cids → get_or cids k d ≢ cid
unlike cid [] k d none l e = absurd (omega (arith, l))
unlike cid (c ∷ cids) zero d none l e =
    false≢true (sym (neither (c == cid) (is_known cid cids) none).0 ∙ eq-eqb c cid e)
unlike cid (c ∷ cids) (suc k) d none l e = unlike cid cids k d (neither (c == cid) (is_known cid cids) none).1 (omega (arith, l)) e

negated : (b : Bool) → not b ≡ true → b ≡ false
negated true e = cc
negated false e = refl

pub all_apart : (cids : List ℕ) → are_distinct cids ≡ true → AllPairs (λ (a b : ℕ). a ≢ b) cids
all_apart [] e i j d low high = absurd (omega (arith, high))
all_apart (cid ∷ cids) e i zero d low high = absurd (omega (arith, low))
all_apart (cid ∷ cids) e zero (suc j) d low high =
    let none = negated (is_known cid cids) (both (not (is_known cid cids)) (are_distinct cids) e).0 in
    λ same. unlike cid cids j d none (omega (arith, high)) (sym same)
all_apart (cid ∷ cids) e (suc i) (suc j) d low high = all_apart cids (both (not (is_known cid cids)) (are_distinct cids) e).1 i j d (omega (arith, low)) (omega (arith, high))

pub record Valid (o : OutboxOptions) : Type 0 where
  pub window : o.window ≤ 1024
  pub window_low : 1 ≤ o.window
  pub units : o.units ≤ 256
  pub own : o.own ≤ 1024
  pub conns : length o.conns.items ≤ 64
  pub apart : AllPairs (λ (a b : ℕ). a ≢ b) o.conns.items

pub valid : (o : OutboxOptions) → is_valid o ≡ true → Valid o
valid o e =
    let a = both (is_within o.window 1024 && is_within o.units 256 && is_within o.own 1024 && is_within (length o.conns.items) 64) (are_distinct o.conns.items) e in
    let b = both (is_within o.window 1024 && is_within o.units 256 && is_within o.own 1024) (is_within (length o.conns.items) 64) a.0 in
    let c = both (is_within o.window 1024 && is_within o.units 256) (is_within o.own 1024) b.0 in
    let d = both (is_within o.window 1024) (is_within o.units 256) c.0 in
    record {
      window = within o.window 1024 d.0;
      window_low = at_least o.window 1024 d.0;
      units = within o.units 256 d.1;
      own = within o.own 1024 c.1;
      conns = within (length o.conns.items) 64 b.1;
      apart = all_apart o.conns.items a.1;
    }

pub all_new : (cids : List ℕ) → replicate (length cids) new_counts ≡ map (λ (cid : ℕ). new_counts) cids
all_new [] = refl
all_new (cid ∷ cids) = ap (λ r. new_counts ∷ r) (all_new cids)

pub ok_has : {A E : Type 0} (P : A → Type 0) (r : Result A E) (x : A) → IfOk r P → result_ok r ≡ Some x → P x
ok_has P (Ok y) x p e = let same : y ≡ x = cc in subst P same p
ok_has P (Err y) x p e = cc

-- ---- sizes

pub few_places : (o : OutboxOptions) → Valid o → 3 * (o.window + 12 * length o.conns.items) ≤ 5376
few_places o v = omega (arith, v.window, v.conns)

-- ---- the invariant of an outbox that is opened

pub is_outbox : (o : OutboxOptions) (last : ℕ) → Valid o → last < 2 ^ 63 → IsOutbox o.conns.items (links_of o).links (waits_of o) (lane_of o) (tracked_of o) None o.window o.units last last
is_outbox o last v few = record {
  few = v.conns;
  of_links = length-replicate (length o.conns.items) new_counts;
  of_queues = length-replicate (length o.conns.items) [];
  of_trails = length-replicate (length o.conns.items) [];
  of_conns = refl;
  of_waits = refl;
  of_tracked = refl;
  of_lane = refl;
  of_answers = refl;
  of_fence = tt;
  windows = v.window;
  of_units = v.units;
  of_max = few;
  of_shown = few;
}

-- what it shows
abbrev pub shown_as : OutboxOptions → Named → Links → Waits → Lane → Tracked → ℕ → State
shown_as o cids links waits lane tracked last = record {
  limits = record { cids = cids.cids; window = o.window; units = o.units; own = o.own; looks = links.looks; shared = o.shared };
  links = links.links;
  waits = waits;
  lane = lane;
  tracked = tracked;
  fence = None;
  exp = o.first;
  max = last;
  shown = last;
  reached = last;
  sent = 0;
}

pub assembled : (o : OutboxOptions) (cids : Named) (links : Links) (waits : Waits) (lane : Lane) (tracked : Tracked) (last : ℕ)
    → cids ≡ record { cids = o.conns.items } → links ≡ links_of o → waits ≡ waits_of o → lane ≡ lane_of o → tracked ≡ tracked_of o → last ≡ number_of_first o.first + o.window - 1
    → shown_as o cids links waits lane tracked last ≡ opened (limits_of o) o.first
assembled o cids links waits lane tracked last is_cids is_links is_waits is_lane is_tracked is_last =
    ap (λ (x : Named). shown_as o x links waits lane tracked last) is_cids
    ∙ ap (λ (x : Links). shown_as o (record { cids = o.conns.items }) x waits lane tracked last) is_links
    ∙ ap (λ (x : Waits). shown_as o (record { cids = o.conns.items }) (links_of o) x lane tracked last) is_waits
    ∙ ap (λ (x : Lane). shown_as o (record { cids = o.conns.items }) (links_of o) (waits_of o) x tracked last) is_lane
    ∙ ap (λ (x : Tracked). shown_as o (record { cids = o.conns.items }) (links_of o) (waits_of o) (lane_of o) x last) is_tracked
    ∙ ap (λ (n : ℕ). shown_as o (record { cids = o.conns.items }) (links_of o) (waits_of o) (lane_of o) (tracked_of o) n) is_last
    ∙ ap (λ (xs : List Counts). record (opened (limits_of o) o.first) { links = xs }) (all_new o.conns.items)
