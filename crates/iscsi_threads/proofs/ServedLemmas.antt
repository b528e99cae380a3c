-- What the loop's end says, after the threads ran to their end.
use Rattle.std.specs.Prelude.{◌≡◌, ℕ, ◌<◌, ◌≤◌, List, [], ◌∷◌, ◌++◌, length, map, ◌==◌, ◌&&◌, Bool, true, false, refl, slice_index, vec_len, Result, Ok, Err, IfErr, Vec}
use Rattle.std.specs.declared.alloc.Global.{Global}
use Rattle.std.proofs.Common.{rules, ap, sym, ◌∙◌, arith, get_or, subst, append_assoc, length-append, eq-eqb}
use Rattle.std.proofs.lemmas.List.{get_or-map, length-map, map-append}
use Rattle.std.proofs.lemmas.Bool.{false≢true}
use Rattle.iscsi_threads.specs.declared.fault.LoopFault.{LoopFault}
use Rattle.iscsi_threads.specs.declared.fault.LoopFault.TheVariants.{BadOptions, NoMemory, Exhausted}
use Rattle.iscsi_threads.specs.declared.halt.Halt.{Halt}
use Rattle.iscsi_threads.specs.declared.halt.Halt.TheVariants.{Memory, Thread}
use Rattle.iscsi_threads.specs.declared.halt.ThreadLost.TheVariants.{Refused, Stopped}
use Rattle.iscsi_threads.specs.private.Halts.{fault_named}
use mathlib.Core.List.{IsPrefix}
use Rattle.iscsi_threads.specs.declared.port.Port.{Port}
use Rattle.iscsi_threads.specs.declared.port.UnitPort.{UnitPort}
use Rattle.iscsi_threads.specs.declared.session_loop.Loop.{Loop}
use Rattle.iscsi_rules.specs.rules.Settings.{Setting}
use Rattle.iscsi_rules.specs.rules.Run.{run_of}
use Rattle.iscsi_threads.specs.declared.finish.Ended.{Ended}
use Rattle.iscsi_threads.specs.declared.serving.End.{End}
use Rattle.iscsi_threads.specs.declared.serving.End.TheVariants.{Quiet, Full}
use Rattle.iscsi_threads.specs.rules.Ports.{Answer, posted, taken, answered}
use Rattle.iscsi_threads.specs.rules.Loops.{journal, sources, setting}
use Rattle.iscsi_threads.specs.rules.Journal.{cids_of, part, parts, done}
use Rattle.iscsi_threads.specs.rules.Jobs.{jobs}
use Rattle.iscsi_threads.specs.promises.Outcomes.{Accounted, EndedAs, UnitDone, ticket_of}
use Rattle.iscsi_threads.specs.rules.Works.{ticket_answered}
use Rattle.iscsi_threads.specs.promises.Full.{FillsJournal}
use Rattle.iscsi_threads.specs.promises.Serving.{Together, Ran, Emptied, ServedBy}
use Rattle.iscsi_threads.proofs.Lists.{some_of}
use Rattle.iscsi_threads.proofs.FinishLemmas.{prefix_append}

nothing_more : {A : Type 0} (xs ys : List A) → xs ≡ xs ++ ys → ys ≡ []
nothing_more xs [] h = refl
nothing_more xs (y ∷ ys) h = let len = ap length h ∙ length-append xs (y ∷ ys) in absurd (omega (arith, len))

-- where the loop was opened, the options are valid; with a list for each connection nothing is wrong with them
pub fits_opened : {A X : Type 0} (valid : Bool) (n m : ℕ) (r : Result A LoopFault) (x : A) → (valid ≡ false → r ≡ Err BadOptions) → r ≡ Ok x → n ≡ m → (valid && (n == m)) ≡ false → X
fits_opened false n m r x bad is same unfit = (let clash : Ok x ≡ Err BadOptions = sym is ∙ bad refl in absurd cc)
fits_opened true n m r x bad is same unfit = absurd (false≢true (sym unfit ∙ eq-eqb n m same))

-- what refuses the opening is no full journal
pub open_not_full : {A X : Type 0} (valid : Bool) (r : Result A LoopFault) (fault : LoopFault)
    → (valid ≡ false → r ≡ Err BadOptions) → (valid ≡ true → IfErr r (λ f. f ≡ NoMemory)) → r ≡ Err fault → fault ≡ Exhausted → X
open_not_full false r fault bad good is full = (let clash : Err fault ≡ Err BadOptions = sym is ∙ bad refl in absurd cc)
open_not_full {A} true r fault bad good is full = (let none : fault ≡ NoMemory = subst (λ (s : Result A LoopFault). IfErr s (λ f. f ≡ NoMemory)) is (good refl) in absurd cc)

-- nor is what halts the threads, and it is no bad option
pub halt_not_full : {X : Type 0} (h : Halt) → fault_named h ≡ Exhausted → X
halt_not_full (Memory e) full = absurd cc
halt_not_full (Thread Refused) full = absurd cc
halt_not_full (Thread Stopped) full = absurd cc

pub halt_not_bad : {X : Type 0} (h : Halt) → fault_named h ≡ BadOptions → X
halt_not_bad (Memory e) bad = absurd cc
halt_not_bad (Thread Refused) bad = absurd cc
halt_not_bad (Thread Stopped) bad = absurd cc

-- what came back quietly ran to its end
pub ran_back : (o : Setting) (lists : List (Vec (List ℕ) Global)) (l l' : Loop) (ports ports' : List Port) (units units' : List UnitPort) (end : End)
    → end ≡ Quiet → l' ≡ l → ports' ≡ ports → units' ≡ units → Together o lists l ports units end → Ran o lists l' ports' units'
ran_back o lists l l' ports ports' units units' end quiet same same' same'' back = rw (same, same', same'') (subst (λ (x : End). Together o lists l ports units x) quiet back)

module _ (l : Loop) (lists : List (Vec (List ℕ) Global)) (ports : List Port) (units : List UnitPort) (ran : Ran (setting l) lists l ports units) where
  -- a connection's part of the journal is what was posted on its port
  part_posted : (i : ℕ) (p : Port) → i < length lists → part (slice_index (cids_of (setting l)) i) (journal l) ≡ posted (get_or ports i p)
  part_posted i p lt =
      let cids = cids_of (setting l) in let j = journal l in
      let same : map posted ports ≡ parts cids j = ran.ended.0.all_taken ∙ l.headers in
      let low : i < length ports = omega (arith, lt, ran.ports_len) in
      let count : length cids ≡ length ports = sym (length-map cids (λ c. part c j)) ∙ ap length (sym same) ∙ length-map ports posted in
      let low' : i < length cids = omega (arith, low, count) in
      sym (get_or-map (λ c. part c j) cids i 0 [] low') ∙ ap (λ (xs : List (List (List ℕ))). get_or xs i []) (sym same) ∙ get_or-map posted ports i p [] low

  pub served_by : (left : List (Vec (List ℕ) Global)) (untaken : List (Vec ℕ Global)) (unread : List (Vec Answer Global))
      → Accounted l ports units left untaken unread → ServedBy (setting l) lists (journal l) (sources l) left untaken unread
  served_by left untaken unread a =
      let count : vec_len l.journal ≡ length (journal l) = search rules in
      record {
        few = omega (arith, l.sizes.5, count);
        sourced = a.sourced;
        gives = a.gives;
        posted = λ i x lt. let p = some_of ports i (omega (arith, lt, ran.ports_len)) in part_posted i p lt ∙ ran.posted_are refl i p x lt;
        lefts = a.lefts ∙ ran.ports_len;
        none_left = λ i x lt.
            let low : i < length ports = omega (arith, lt, ran.ports_len) in
            let p = some_of ports i low in
            nothing_more (part (slice_index (cids_of (setting l)) i) (journal l)) (get_or left i x).items (part_posted i p lt ∙ a.all_posted i p x low);
        ended = ran.ended.0.ended;
        untakens = a.untakens ∙ ran.units_len;
        unreads = a.unreads ∙ ran.units_len;
        in_turn = λ u v w lt.
            let low : u < length units = omega (arith, lt, ran.units_len) in
            let q = some_of units u low in
            let d : UnitDone (setting l) (journal l) (sources l) u (get_or units u q) (get_or untaken u v).items (get_or unread u w).items = a.all_done u q v w low in
            record {
              tickets = map ticket_of (taken (get_or units u q));
              taken_first = d.all_jobs;
              answered_first = subst (λ answers. IsPrefix (map ticket_answered answers) (map ticket_of (taken (get_or units u q)))) d.all_answers (ran.in_turn u q low);
            };
      }

-- what is the first of some is the first of more
prefix_before : {A : Type 0} (xs ws ys zs : List A) → ys ≡ xs ++ ws → IsPrefix ys zs → IsPrefix xs zs
prefix_before {A} xs ws ys zs same p = (ws ++ p.0, sym (append_assoc xs ws p.0) ∙ ap (λ (l : List A). l ++ p.0) (sym same) ∙ p.1)

module _ (l : Loop) (lists : List (Vec (List ℕ) Global)) (ports : List Port) (units : List UnitPort) (e : Ended) (back : Together (setting l) lists l ports units Full) (emptied : EndedAs l ports units e) where
  -- each unit answered the first of its jobs
  answered_first : (u : ℕ) → u < (setting l).units → IsPrefix (map ticket_answered (done u (journal l) (sources l))) (map ticket_of (jobs u (run_of (setting l) (journal l))))
  answered_first u lt =
      let a = emptied.accounted in
      let low : u < length units = omega (arith, lt, back.units_len) in
      let q = some_of units u low in
      let v = some_of e.untaken.items u (omega (arith, low, a.untakens)) in
      let w = some_of e.unread.items u (omega (arith, low, a.unreads)) in
      let d : UnitDone (setting l) (journal l) (sources l) u (get_or units u q) (get_or e.untaken.items u v).items (get_or e.unread.items u w).items = a.all_done u q v w low in
      let given = done u (journal l) (sources l) in
      let all = ap (map ticket_answered) d.all_answers ∙ map-append ticket_answered given (get_or e.unread.items u w).items in
      let first : IsPrefix (map ticket_answered given) (map ticket_of (taken (get_or units u q))) =
      prefix_before (map ticket_answered given) (map ticket_answered (get_or e.unread.items u w).items) (map ticket_answered (answered (get_or units u q))) _ all (back.in_turn u q low)
      in
      subst (IsPrefix (map ticket_answered given)) (sym d.all_jobs) (prefix_append (map ticket_answered given) (map ticket_of (taken (get_or units u q))) (get_or e.untaken.items u v).items first)

  pub full_at : FillsJournal (setting l) lists
  full_at =
      let count : vec_len l.journal ≡ length (journal l) = search rules in
      let all : (setting l).events ≤ length (journal l) = back.ended in
      record {
        journal = journal l;
        from = sources l;
        full = omega (arith, l.sizes.5, count, all);
        sourced = emptied.accounted.sourced;
        fronts = λ i x lt.
            let low : i < length ports = omega (arith, lt, back.ports_len) in
            let p = some_of ports i low in
            prefix_before (part (slice_index (cids_of (setting l)) i) (journal l)) (get_or e.left.items i x).items (posted (get_or ports i p)) _ (emptied.accounted.all_posted i p x low) (back.fronts i p x lt);
        in_turn = answered_first;
      }

-- a loop whose journal is full, once its rings were emptied
pub full_of : (o : Setting) (l : Loop) (lists : List (Vec (List ℕ) Global)) (ports : List Port) (units : List UnitPort) → Together o lists l ports units Full → Emptied l ports units → FillsJournal o lists
full_of o l lists ports units back emptied =
    let same : setting l ≡ o = back.setting_is in
    let here : Together (setting l) lists l ports units Full = subst (λ (s : Setting). Together s lists l ports units Full) (sym same) back in
    subst (λ (s : Setting). FillsJournal s lists) same (full_at l lists ports units emptied.0 here emptied.1)
