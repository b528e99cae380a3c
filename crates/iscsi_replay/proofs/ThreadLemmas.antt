-- What threads make of a recording.
use Rattle.std.specs.Prelude.{IsSome, IfSome, Option, Result, Ok, Err, ◌≡◌, ℕ, ◌<◌, ◌==◌, ◌&&◌, Bool, true, false, nat_lt, nat_eq, List, [], ◌∷◌, ◌++◌, length, map, position, slice_index, Some, None, Vec, refl}
use Rattle.std.specs.List.{list_all}
use Rattle.std.specs.declared.alloc.Global.{Global}
use Rattle.std.proofs.Common.{ap, sym, subst, ◌∙◌, arith, get_or, append-nil, append_assoc}
use Rattle.std.proofs.lemmas.Bool.Decides.{nat_tests}
use Rattle.std.proofs.lemmas.List.{get_or-map, length-map, map-append}
use Rattle.std.proofs.lemmas.List.Quantifiers.{position-Some}
use Rattle.std.proofs.lemmas.Bool.{eqb-true, false≢true}
use Rattle.iscsi_rules.proofs.general.ListLemmas.{IsSome-position}
use mathlib.Core.List.{IsPrefix}
use Rattle.iscsi_rules.proofs.general.BoolLemmas.{and_first, and_second}
use Rattle.iscsi_rules.specs.declared.event.Event.{Event}
use Rattle.iscsi_rules.specs.declared.event.Event.TheVariants.{Arrive, Done}
use Rattle.iscsi_rules.specs.rules.Settings.{Setting, is_known, are_distinct}
use Rattle.iscsi_rules.specs.rules.Run.{run_of}
use Rattle.iscsi_threads.specs.declared.fault.LoopFault.{LoopFault}
use Rattle.iscsi_threads.specs.declared.fault.LoopFault.TheVariants as loop
use Rattle.iscsi_threads.specs.promises.Full as served
use Rattle.iscsi_threads.specs.rules.Ports.{Answer}
use Rattle.iscsi_threads.specs.rules.Journal.{cids_in, part, parts, done, is_source, are_sources}
use Rattle.iscsi_threads.specs.rules.Jobs.{jobs}
use Rattle.iscsi_threads.specs.promises.Outcomes.{ticket_of}
use Rattle.iscsi_threads.specs.rules.Works.{ticket_answered}
use Rattle.iscsi_threads.specs.promises.Serving.{ServedBy, UnitServed}
use Rattle.iscsi_threads.specs.private.Ends.{grow}
use Rattle.iscsi_threads.proofs.Lists.{some_of}
use Rattle.iscsi_threads.proofs.Turning.{known_at}
use Rattle.iscsi_threads.proofs.OpenLemmas.{differ_of}
use Rattle.iscsi_threads.proofs.Journals.{heads_after, map_same, part_snoc}
use Rattle.iscsi_settings.specs.declared.settings.Settings.{Settings}
use Rattle.iscsi_recording.specs.Recorded.{Recorded, belongs_to, read_of}
use Rattle.iscsi_recording.specs.declared.fault.ReplayFault.{ReplayFault}
use Rattle.iscsi_recording.specs.declared.fault.ReplayFault.TheVariants as replay
use Rattle.iscsi_replay.specs.promises.Threaded.{setting_for_threads, headers, ThreadsRan, FillsJournal, IsFaultOf, ComesOfThreads, CanStopThreads, ThreadsAnswerAs}

-- ---- the lists of headers

-- where a known CID stands
pub place_is : (conns : List (ℕ × ℕ)) (c f : ℕ) (d : ℕ × ℕ) → position (λ (k : ℕ × ℕ). k.0 == c) conns ≡ Some f → (f < length conns) × ((get_or conns f d).0 ≡ c)
place_is conns c f d found =
    let h = position-Some (λ (k : ℕ × ℕ). k.0 == c) conns f d found in (h.0, eqb-true (get_or conns f d).0 c h.1)

-- a known CID stands somewhere
pub place_some : (conns : List (ℕ × ℕ)) (c : ℕ) → is_known c conns ≡ true → position (λ (k : ℕ × ℕ). k.0 == c) conns ≡ None → ⊥
place_some conns c known none = let some : false ≡ true = subst IsSome none (IsSome-position (λ (k : ℕ × ℕ). k.0 == c) conns known) in absurd (false≢true some)

-- an arrival more
pub parts_arrive : (conns : List (ℕ × ℕ)) (before : List Event) (c f : ℕ) (x : List ℕ) (heads heads' : List (List (List ℕ)))
    → are_distinct conns ≡ true → position (λ (k : ℕ × ℕ). k.0 == c) conns ≡ Some f
    → heads ≡ parts (cids_in conns) before → heads' ≡ grow heads f x → heads' ≡ parts (cids_in conns) (before ++ Arrive c x ∷ [])
parts_arrive conns before c f x heads heads' distinct found same grown =
    let cids = cids_in conns in
    let place = place_is conns c f (c, 0) found in
    let below : f < length cids = let l = length-map conns (λ (k : ℕ × ℕ). k.0) in omega (arith, place.0) in
    let there : c ≡ get_or cids f 0 = sym place.1 ∙ sym (get_or-map (λ (k : ℕ × ℕ). k.0) conns f (c, 0) 0 place.0) in
    heads_after cids before heads' [] [] (Arrive c x) f (differ_of conns distinct)
    (below, there, grown ∙ ap (λ (h : List (List (List ℕ))). grow h f x) same, refl)

-- a completion more
pub parts_done : (conns : List (ℕ × ℕ)) (before : List Event) (t s : ℕ) (heads : List (List (List ℕ)))
    → heads ≡ parts (cids_in conns) before → heads ≡ parts (cids_in conns) (before ++ Done t s ∷ [])
parts_done conns before t s heads same =
    same ∙ map_same _ _ (cids_in conns) (λ k lo. sym (part_snoc _ before (Done t s) ∙ append-nil _))

-- ---- the journal

source_known : (conns : List (ℕ × ℕ)) (n : ℕ) (e : Event) (f : ℕ) → is_source (cids_in conns) n e f ≡ true → belongs_to conns e ≡ true
source_known conns n (Arrive c x) f h =
    let L = nat_lt f (length (cids_in conns)) in let E = nat_eq (slice_index (cids_in conns) f) c in
    let low : L ≡ true = and_first L E h in
    let same : E ≡ true = and_second L E h in
    known_at conns f c (grind (arith, nat_tests)) (grind (arith, nat_tests))
source_known conns n (Done t s) f h = refl

both : (a b : Bool) → a ≡ true → b ≡ true → a && b ≡ true
both true b h k = k
both false b h k = h

-- where each event has a source, each arrival is of a known connection
pub sources_known : (conns : List (ℕ × ℕ)) (n : ℕ) (es : List Event) (fs : List ℕ) → are_sources (cids_in conns) n es fs ≡ true → list_all (belongs_to conns) es ≡ true
sources_known conns n [] fs h = refl
sources_known conns n (e ∷ es) [] h = absurd cc
sources_known conns n (e ∷ es) (f ∷ fs) h =
    let S = is_source (cids_in conns) n e f in let R = are_sources (cids_in conns) n es fs in
    both (belongs_to conns e) (list_all (belongs_to conns) es) (source_known conns n e f (and_first S R h)) (sources_known conns n es fs (and_second S R h))

-- the first of what stands before more
prefix_shorter : {A : Type 0} (xs ys zs ws : List A) → IsPrefix (xs ++ ys) zs → IsPrefix xs (zs ++ ws)
prefix_shorter xs ys zs ws h = (ys ++ (h.0 ++ ws), sym (append_assoc xs ys (h.0 ++ ws)) ∙ sym (append_assoc (xs ++ ys) h.0 ws) ∙ ap (λ l. l ++ ws) h.1)

unit_in_turn : (o : Setting) (j : List Event) (from : List ℕ) (u : ℕ) (untaken : List ℕ) (unread : List Answer) → UnitServed o j from u untaken unread
    → IsPrefix (map ticket_answered (done u j from)) (map ticket_of (jobs u (run_of o j)))
unit_in_turn o j from u untaken unread h =
    subst (IsPrefix (map ticket_answered (done u j from))) (sym h.taken_first)
    (prefix_shorter _ (map ticket_answered unread) h.tickets untaken (subst (λ l. IsPrefix l h.tickets) (map-append ticket_answered (done u j from) unread) h.answered_first))

-- the threads that were given the recording's arrivals took them
pub ran_of : (s : Settings) (r : Recorded) (lists : List (Vec (List ℕ) Global)) (j : List Event) (from : List ℕ) (left : List (Vec (List ℕ) Global))
    (untaken : List (Vec ℕ Global)) (unread : List (Vec Answer Global))
    → map headers lists ≡ parts (cids_in r.conns) r.events → ServedBy (setting_for_threads s r.conns) lists j from left untaken unread → ThreadsRan s r j from
ran_of s r lists j from left untaken unread given h =
    let o = setting_for_threads s r.conns in let cids = cids_in r.conns in
    let count : length lists ≡ length r.conns = sym (length-map lists headers) ∙ ap length given ∙ length-map cids (λ c. part c r.events) ∙ length-map r.conns (λ (c : ℕ × ℕ). c.0) in
    record {
      sourced = h.sourced;
      parts = λ i lt.
          let low : i < length lists = omega (arith, lt, count) in
          let below : i < length cids = let l = length-map r.conns (λ (c : ℕ × ℕ). c.0) in omega (arith, lt) in
          let x = some_of lists i low in
          h.posted i x low ∙ sym (get_or-map headers lists i x [] low) ∙ ap (λ (l : List (List (List ℕ))). get_or l i []) given ∙ get_or-map (λ c. part c r.events) cids i 0 [] below;
      ended = h.ended;
      in_turn = λ u lt.
          let v = some_of untaken u (omega (arith, lt, h.untakens)) in
          let w = some_of unread u (omega (arith, lt, h.unreads)) in
          unit_in_turn o j from u (get_or untaken u v).items (get_or unread u w).items (h.in_turn u v w lt);
    }

-- what filled the journal of the threads was given by the recording
pub filled_of : (s : Settings) (r : Recorded) (lists : List (Vec (List ℕ) Global)) → map headers lists ≡ parts (cids_in r.conns) r.events
    → served.FillsJournal (setting_for_threads s r.conns) lists → FillsJournal s r
filled_of s r lists given h =
    let cids = cids_in r.conns in
    let count : length lists ≡ length r.conns = sym (length-map lists headers) ∙ ap length given ∙ length-map cids (λ c. part c r.events) ∙ length-map r.conns (λ (c : ℕ × ℕ). c.0) in
    record {
      journal = h.journal;
      from = h.from;
      full = h.full;
      sourced = h.sourced;
      fronts = λ i lt.
          let low : i < length lists = omega (arith, lt, count) in
          let below : i < length cids = let l = length-map r.conns (λ (c : ℕ × ℕ). c.0) in omega (arith, lt) in
          let x = some_of lists i low in
          let list : (get_or lists i x).items ≡ part (slice_index cids i) r.events =
          sym (get_or-map headers lists i x [] low) ∙ ap (λ (l : List (List (List ℕ))). get_or l i []) given ∙ get_or-map (λ c. part c r.events) cids i 0 [] below
          in
          subst (IsPrefix (part (slice_index cids i) h.journal)) list (h.fronts i x low);
      in_turn = h.in_turn;
    }

-- why threads stop
pub stopped_for : (s : Settings) (r : Recorded) (fault : LoopFault) (e : ReplayFault) → IsFaultOf fault e → (fault ≡ loop.Exhausted → FillsJournal s r) → ComesOfThreads s r e
stopped_for s r loop.BadOptions e is fills = absurd is
stopped_for s r loop.NoMemory e is fills = subst (ComesOfThreads s r) (sym is) tt
stopped_for s r loop.NoThread e is fills = subst (ComesOfThreads s r) (sym is) tt
stopped_for s r loop.Unposted e is fills = subst (ComesOfThreads s r) (sym is) tt
stopped_for s r loop.Exhausted e is fills = subst (ComesOfThreads s r) (sym is) (fills refl)

can_stop : (s : Settings) (r : Recorded) (e : ReplayFault) → ComesOfThreads s r e → CanStopThreads s r e
can_stop s r replay.NoMemory h = tt
can_stop s r replay.NoThread h = tt
can_stop s r replay.Exhausted h = h
can_stop s r (replay.BadLine line) h = absurd h
can_stop s r (replay.LineTooLong line) h = absurd h
can_stop s r replay.TooManyLines h = absurd h
can_stop s r replay.Read h = absurd h
can_stop s r replay.NoConnection h = absurd h
can_stop s r replay.Write h = absurd h
can_stop s r replay.BadSettings h = absurd h

-- threads stopped that were given the recording
pub threads_stop : (s : Settings) (r : Recorded) (e : ReplayFault) (given : Option (List ℕ)) → IfSome given (λ bytes. read_of bytes ≡ Ok r) → ComesOfThreads s r e
    → IfSome given (λ bytes. ThreadsAnswerAs s (read_of bytes) (Err e))
threads_stop s r e None read h = tt
threads_stop s r e (Some bytes) read h = subst (λ (x : Result Recorded ReplayFault). ThreadsAnswerAs s x (Err e)) (sym read) (can_stop s r e h)
