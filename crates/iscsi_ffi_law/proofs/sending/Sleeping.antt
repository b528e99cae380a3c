-- A connection gives nothing: it is to be told again when it could give something.
use Rattle.std.proofs.Common.{◌≡◌, ℕ, zero, suc, ◌<◌, ◌==◌, ◌&&◌, ◌||◌, not, Bool, true, false, List, [], ◌∷◌, length, map, filter, get_or, set, Option, None, refl, ap, sym, subst, ◌∙◌, arith}
use Rattle.std.specs.List.{list_any}
use Rattle.std.proofs.lemmas.Bool.{false≢true, eqb-true, eq-eqb, or_parts}
use Rattle.iscsi_rules.specs.rules.Trace.{entered}
use Rattle.iscsi_rules.proofs.general.ListLemmas.{filtered_among}
use Rattle.iscsi_outbox_rules.specs.rules.Words.{contains}
use Rattle.iscsi_outbox_law.specs.private.Commands.{link_in}
use Rattle.iscsi_outbox_law.proofs.general.PairLemmas.{each-weaken, pairs-weaken}
use Rattle.iscsi_outbox_law.proofs.general.PlaceLemmas.{AreApart as Apart}
use Rattle.iscsi_requests.specs.Conns.{of_conn}
use Rattle.iscsi_ffi_rules.specs.rules.Calls.{Interface}
use Rattle.iscsi_ffi_rules.specs.rules.Needs.{left_to_write}
use Rattle.iscsi_ffi_rules.specs.rules.Run as rules
use Rattle.iscsi_ffi_rules.specs.rules.Run.{cids}
use Rattle.iscsi_ffi_rules.specs.rules.Sides.{Side}
use Rattle.iscsi_ffi_steps.specs.State.{State}
use Rattle.iscsi_ffi_steps.specs.Steps.{Side as StepsSide, asleep, going}
use Rattle.iscsi_ffi_law.specs.Names.{Name, Note}
use Rattle.iscsi_ffi_law.specs.Parts.{IsAbout, IsCommand, IsConn, IsNote, IsRequest, is_named}
use Rattle.iscsi_ffi_law.specs.Stands.{AreRequests, Stands}
use Rattle.iscsi_ffi_law.proofs.calls.Ends.{EndsAlike, IsLeft, ends_alike}
use Rattle.iscsi_rules.proofs.general.BoolLemmas.{or_second}

-- ---- who was told

awake_there : (before cids : List ℕ) (p cid : ℕ) → Apart cids → p < length cids → get_or cids p 0 ≡ cid → set (map (contains before) cids) p false ≡ map (contains (filter (λ c. not (c == cid)) before)) cids
awake_there before [] p cid apart within is = absurd (let none : ⊥ = omega (arith, within) in none)
awake_there before (c ∷ cids) zero cid apart within is =
    ap (λ b. b ∷ map (contains before) cids) (sym (filtered_among (λ k. not (k == cid)) c before ∙ ap (λ v. contains before c && not v) (eq-eqb c cid is) ∙ none (contains before c)))
    ∙ ap (λ bs. contains (filter (λ k. not (k == cid)) before) c ∷ bs) (others before cids cid (subst (λ k. list_any (λ j. j == k) cids ≡ false) is apart.0))
  where
    none : (v : Bool) → (v && false) ≡ false
    none true = refl
    none false = refl

    others : (told rest : List ℕ) (k : ℕ) → list_any (λ j. j == k) rest ≡ false → map (contains told) rest ≡ map (contains (filter (λ j. not (j == k)) told)) rest
    others told [] k absent = refl
    others told (j ∷ rest) k absent =
        let parts = or_parts (j == k) (list_any (λ m. m == k) rest) absent in
        ap (λ b. b ∷ map (contains told) rest) (sym (filtered_among (λ m. not (m == k)) j told ∙ ap (λ v. contains told j && not v) parts.0 ∙ whole (contains told j)))
        ∙ ap (λ bs. contains (filter (λ m. not (m == k)) told) j ∷ bs) (others told rest k parts.1)
      where
        whole : (v : Bool) → (v && true) ≡ v
        whole true = refl
        whole false = refl
awake_there before (c ∷ cids) (suc p) cid apart within is =
    ap (λ b. b ∷ set (map (contains before) cids) p false) (sym (filtered_among (λ k. not (k == cid)) c before ∙ ap (λ v. contains before c && not v) (isnt (c == cid) refl) ∙ whole (contains before c)))
    ∙ ap (λ bs. contains (filter (λ k. not (k == cid)) before) c ∷ bs) (awake_there before cids p cid apart.1 (omega (arith, within)) is)
  where
    whole : (v : Bool) → (v && true) ≡ v
    whole true = refl
    whole false = refl

    there : (rest : List ℕ) (k : ℕ) → k < length rest → list_any (λ j. j == get_or rest k 0) rest ≡ true
    there [] k short = absurd (let no' : ⊥ = omega (arith, short) in no')
    there (j ∷ rest) zero short = ap (λ v. v || list_any (λ m. m == j) rest) (eq-eqb j j refl)
    there (j ∷ rest) (suc k) short = or_second (j == get_or rest k 0) (list_any (λ m. m == get_or rest k 0) rest) (there rest k (omega (arith, short)))

    isnt : (v : Bool) → (c == cid) ≡ v → (c == cid) ≡ false
    isnt false same = same
    isnt true same = absurd (false≢true (sym apart.0 ∙ ap (λ k. list_any (λ j. j == k) cids) (eqb-true c cid same ∙ sym is) ∙ there cids p (omega (arith, within))))

pub awake_nowhere : (before cids : List ℕ) (cid : ℕ) → list_any (λ c. c == cid) cids ≡ false → map (contains before) cids ≡ map (contains (filter (λ c. not (c == cid)) before)) cids
awake_nowhere before [] cid none = refl
awake_nowhere before (c ∷ cids) cid none =
    let parts = or_parts (c == cid) (list_any (λ m. m == cid) cids) none in
    ap (λ b. b ∷ map (contains before) cids) (sym (filtered_among (λ k. not (k == cid)) c before ∙ ap (λ v. contains before c && not v) parts.0 ∙ whole (contains before c)))
    ∙ ap (λ bs. contains (filter (λ k. not (k == cid)) before) c ∷ bs) (awake_nowhere before cids cid parts.1)
  where
    whole : (v : Bool) → (v && true) ≡ v
    whole true = refl
    whole false = refl

-- ---- what is kept stays so

requests_asleep : (names : List Name) (notes : List Note) (pending : ℕ → ℕ) (gone : ℕ → List (Option ℕ)) (s : State) (r : Side) (flags : List Bool) (awake : List ℕ) → AreRequests names notes pending gone s r
    → AreRequests names notes pending gone (record s { awake = flags }) (record r { awake = awake })
requests_asleep names notes pending gone s r flags awake a = record {
  asked = a.asked;
  noted = a.noted;
  apart = a.apart;
  kept = a.kept;
  counted = a.counted;
  uses = a.uses;
  named = each-weaken (IsRequest s r.both.trace) (IsRequest (record s { awake = flags }) r.both.trace) names (λ n q. record { held = q.held; waiting = q.waiting }) a.named;
  noted_apart = each-weaken (IsNote s r.both.box.links) (IsNote (record s { awake = flags }) r.both.box.links) notes (λ n q. record { held = q.held; waiting = q.waiting; home = q.home }) a.noted_apart;
  tickets = a.tickets;
  commands = pairs-weaken (IsCommand names r) (IsCommand names (record r { awake = awake })) s.commands.items (filter (is_named names) (entered r.both.trace))
      (λ c d k. record { ticket = k.ticket; unit = k.unit; attr = k.attr; request = k.request; live = k.live; going = k.going; marked = k.marked; freed = k.freed }) a.commands;
  live_named = a.live_named;
  one_use = a.one_use;
  numbered = a.numbered;
  answers = a.answers;
  once = a.once;
  last = a.last;
  conns = λ p within.
      let c : IsConn names notes (gone p) s r p (link_in r.both.box.links p) = a.conns p within in
      record {
        replies = c.replies;
        queued = c.queued;
        written = pairs-weaken (IsAbout names notes r (link_in r.both.box.links p).conn) (IsAbout names notes (record r { awake = awake }) (link_in r.both.box.links p).conn) (of_conn p s.unwritten.handed) (left_to_write (link_in r.both.box.links p))
            (λ x y k. record { named = k.named; noted = k.noted }) c.written;
        noted = c.noted;
      };
  undue = a.undue;
}

module _ (i : Interface) (s : StepsSide) (r : Side) (h : Stands i s r) (left : IsLeft i r.both.box) where
  pub sleeps : (flags : List Bool) (awake : List ℕ) → flags ≡ map (contains awake) (cids i) → EndsAlike i (record { event = s.event; trace = s.trace; doing = record { state = record s.state { awake = flags }; actions = []; forgets = [] } }) (record r { awake = awake }) []
  sleeps flags awake are =
      ends_alike i h.names h.notes (λ p. []) None (record s.state { awake = flags }) (record r { awake = awake }) (record {
        outbox = h.outbox;
        sound = left.sound;
        few = left.few;
        distinct = left.distinct;
        sizes = record { room = h.sizes.room; functions = h.sizes.functions; replies = h.sizes.replies; noted = h.sizes.noted; unwritten = h.sizes.unwritten; noted_room = h.sizes.noted_room; unwritten_room = h.sizes.unwritten_room; replies_room = h.sizes.replies_room; slots = h.sizes.slots; few = h.sizes.few };
        flags = record { awake = are; over = h.flags.over };
        requests = requests_asleep h.names h.notes (λ place. 0) (λ p. []) s.state r flags awake h.requests;
        counts = record { units = h.counts.units; last = h.counts.last; tracked = h.counts.tracked };
        withheld = h.withheld;
        calm = h.calm;
        slots = h.slots;
        functions = h.functions;
      }) left.some (record { event = s.event; trace = s.trace; doing = record { state = record s.state { awake = flags }; actions = []; forgets = [] } }) refl h.event h.trace

  pub sleeps_there : (p cid : ℕ) → Apart (cids i) → p < length (cids i) → get_or (cids i) p 0 ≡ cid → EndsAlike i (going (asleep p s)) (rules.asleep cid r) []
  sleeps_there p cid apart within is = sleeps (set s.state.awake p false) (filter (λ c. not (c == cid)) r.awake) (ap (λ bs. set bs p false) h.flags.awake ∙ awake_there r.awake (cids i) p cid apart within is)

  pub sleeps_nowhere : (cid : ℕ) → list_any (λ c. c == cid) (cids i) ≡ false → EndsAlike i (going s) (rules.asleep cid r) []
  sleeps_nowhere cid none = sleeps s.state.awake (filter (λ c. not (c == cid)) r.awake) (h.flags.awake ∙ awake_nowhere r.awake (cids i) cid none)
