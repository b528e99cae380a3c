-- A command completes, or starts: the commands, by the steps and by the rules, as one comes to another stage.
use Rattle.std.proofs.Common.{◌≡◌, ℕ, ◌≤◌, ◌==◌, ◌&&◌, ◌||◌, inl, inr, not, cond, Bool, true, false, List, [], ◌∷◌, ◌++◌, map, count_by, filter, find, Some, refl, ap, sym, ◌∙◌, arith}
use Rattle.std.specs.List.{list_any}
use Rattle.std.proofs.lemmas.Bool.{cond_both, eq-eqb, eqb-true, false≢true, or_left, or_right}
use Rattle.std.proofs.lemmas.List.Folds.{list_any-append}
use Rattle.iscsi_tasks.specs.declared.task.Attr.{Attr}
use Rattle.iscsi_tasks.specs.declared.task.Attr.TheVariants.{Simple, Ordered, Head}
use Rattle.iscsi_rules.specs.rules.Trace.{Command as RulesCommand, are_apart, entered, has, leaves_ticket, live, was_free}
use Rattle.iscsi_rules.proofs.general.BoolLemmas.{or_false}
use Rattle.iscsi_rules.proofs.general.ElementLemmas.{In, filter-in, in-filter}
use Rattle.iscsi_rules.proofs.general.ListLemmas.{any_filter}
use Rattle.iscsi_outbox_rules.specs.rules.Words.{contains}
use Rattle.iscsi_outbox_law.specs.private.Pairs.{EachOf}
use Rattle.iscsi_outbox_law.proofs.general.PairLemmas.{pairs-any}
use Rattle.iscsi_outbox_steps.specs.State.{State as OutboxState}
use Rattle.iscsi_outbox_steps.specs.Steps.{is_running_ticket}
use Rattle.iscsi_ffi_commands.specs.declared.command.Command.{Command}
use Rattle.iscsi_ffi_commands.specs.declared.command.Stage.{Stage}
use Rattle.iscsi_ffi_commands.specs.declared.command.Stage.TheVariants.{Over, Started}
use Rattle.iscsi_ffi_commands.specs.Commands.{Commands, find_ticket, has_ticket, in_stage, is_clearing, is_head, is_live, is_marked}
use Rattle.iscsi_ffi_rules.specs.rules.Clearing.{is_clearing as is_clearing_there, is_head as is_head_there, is_marked as is_marked_there, is_withheld as is_withheld_there}
use Rattle.iscsi_ffi_rules.specs.rules.Sides.{Side}
use Rattle.iscsi_ffi_steps.specs.State.{State, is_withheld}
use Rattle.iscsi_ffi_law.specs.Names.{Name}
use Rattle.iscsi_ffi_law.specs.Parts.{AreCommands, IsCommand, IsLiveNamed, IsOneUse, is_named}
use Rattle.iscsi_ffi_law.specs.Uses.{is_used}
use Rattle.iscsi_ffi_law.proofs.commands.Commands.{one_command}
use Rattle.iscsi_ffi_law.proofs.completions.DoneShape.{done_trace, free_still, left_too}
use Rattle.iscsi_ffi_law.proofs.calls.Fitting.{count_map}
use Rattle.iscsi_ffi_law.proofs.requests.Kept.{count_members}
use Rattle.iscsi_ffi_law.proofs.resets.Marking.{named_first, pairs_mapped}
use Rattle.iscsi_ffi_law.proofs.general.Members.{each_in, find_in, in_find, in_pairs, two_counted}

-- ---- a command

abbrev pub restaged : Stage → ℕ → Command → Command
restaged stage ticket c = cond (has_ticket ticket c) (in_stage stage c) c

pub restaged_ticket : (stage : Stage) (ticket : ℕ) (c : Command) → (restaged stage ticket c).ticket ≡ c.ticket
restaged_ticket stage ticket c = cond_both (has_ticket ticket c) (in_stage stage c) c (λ (x : Command). x.ticket ≡ c.ticket) (λ is. refl) (λ isnt. refl)

pub restaged_request : (stage : Stage) (ticket : ℕ) (c : Command) → (restaged stage ticket c).request ≡ c.request
restaged_request stage ticket c = cond_both (has_ticket ticket c) (in_stage stage c) c (λ (x : Command). x.request ≡ c.request) (λ is. refl) (λ isnt. refl)

-- it starts, as one that is live
pub started_live : (ticket : ℕ) (c : Command) → (has_ticket ticket c ≡ true → is_live c ≡ true) → is_live (restaged Started ticket c) ≡ is_live c
started_live ticket c lives = cond_both (has_ticket ticket c) (in_stage Started c) c (λ (x : Command). is_live x ≡ is_live c) (λ is. sym (lives is)) (λ isnt. refl)

last_there : (told : List ℕ) (k n : ℕ) → contains (told ++ k ∷ []) n ≡ (contains told n || (k == n))
last_there told k n = list_any-append (λ m. m == n) told (k ∷ []) ∙ ap (λ v. contains told n || v) (or_false (k == n))

-- ---- one completes

module _ (names : List Name) (r : Side) (d : RulesCommand) (status : ℕ) (r' : Side) (trace : r'.both.trace ≡ done_trace r.both.trace d status) (told : r'.told ≡ r.told) (marked : r'.marked ≡ r.marked) where
  pub one_over : (c : Command) (x : RulesCommand) → IsCommand names r c x → IsCommand names r' (restaged Over d.ticket c) x
  one_over c x k = by_ticket (has_ticket d.ticket c) refl
    where
      gone : has (leaves_ticket x.ticket) r'.both.trace ≡ ((d.ticket == x.ticket) || has (leaves_ticket x.ticket) r.both.trace)
      gone = ap (has (leaves_ticket x.ticket)) trace ∙ left_too r.both.trace d status x.ticket

      freed_now : contains r'.told x.ticket ≡ true → was_free x r'.both.trace ≡ true
      freed_now h = ap (was_free x) trace ∙ free_still r.both.trace d status x (k.freed (ap (λ ks. contains ks x.ticket) (sym told) ∙ h))

      by_ticket : (v : Bool) → has_ticket d.ticket c ≡ v → IsCommand names r' (cond v (in_stage Over c) c) x
      by_ticket true is = record {
        ticket = k.ticket;
        unit = k.unit;
        attr = k.attr;
        request = k.request;
        live = sym (ap not (gone ∙ or_left (d.ticket == x.ticket) (has (leaves_ticket x.ticket) r.both.trace) (eq-eqb d.ticket x.ticket (sym (eqb-true c.ticket d.ticket is) ∙ k.ticket))));
        going = refl;
        marked = refl;
        freed = freed_now;
      }
      by_ticket false is =
          let other : (d.ticket == x.ticket) ≡ false = isnt (d.ticket == x.ticket) refl in
          record {
            ticket = k.ticket;
            unit = k.unit;
            attr = k.attr;
            request = k.request;
            live = k.live ∙ sym (ap not (gone ∙ ap (λ v. v || has (leaves_ticket x.ticket) r.both.trace) other));
            going = k.going ∙ ap (λ ks. is_live c && contains ks x.ticket) (sym told);
            marked = k.marked ∙ ap (λ ks. is_live c && contains ks x.ticket) (sym marked);
            freed = freed_now;
          }
        where
          isnt : (v : Bool) → (d.ticket == x.ticket) ≡ v → v ≡ false
          isnt false same = refl
          isnt true same = absurd (false≢true (sym is ∙ eq-eqb c.ticket d.ticket (k.ticket ∙ sym (eqb-true d.ticket x.ticket same))))

-- ---- one starts

module _ (names : List Name) (r : Side) (apart : are_apart (entered r.both.trace) ≡ true) (d : RulesCommand) (there : In d (entered r.both.trace)) (lives : has (leaves_ticket d.ticket) r.both.trace ≡ false) (free : was_free d r.both.trace ≡ true)
    (unmarked : contains r.marked d.ticket ≡ false) where
  abbrev pub started_side : Side
  started_side = record r { told = r.told ++ d.ticket ∷ [] }

  pub one_started : (c : Command) (x : RulesCommand) → In x (entered r.both.trace) → IsCommand names r c x → IsCommand names (record r { told = r.told ++ d.ticket ∷ [] }) (restaged Started d.ticket c) x
  one_started c x x_there k = by_ticket (has_ticket d.ticket c) refl
    where
      by_ticket : (v : Bool) → has_ticket d.ticket c ≡ v → IsCommand names (record r { told = r.told ++ d.ticket ∷ [] }) (cond v (in_stage Started c) c) x
      by_ticket true is =
          let same_ticket : x.ticket ≡ d.ticket = sym k.ticket ∙ eqb-true c.ticket d.ticket is in
          let same : x ≡ d = one_command (entered r.both.trace) x d apart x_there there same_ticket in
          record {
            ticket = k.ticket;
            unit = k.unit;
            attr = k.attr;
            request = k.request;
            live = sym (ap (λ n. not (has (leaves_ticket n) r.both.trace)) same_ticket ∙ ap not lives);
            going = sym (last_there r.told d.ticket x.ticket ∙ or_right (contains r.told x.ticket) (d.ticket == x.ticket) (eq-eqb d.ticket x.ticket (sym same_ticket)));
            marked = sym (ap (contains r.marked) same_ticket ∙ unmarked);
            freed = λ h. ap (λ (y : RulesCommand). was_free y r.both.trace) same ∙ free;
          }
      by_ticket false is =
          let still : contains (r.told ++ d.ticket ∷ []) x.ticket ≡ contains r.told x.ticket = last_there r.told d.ticket x.ticket ∙ ap (λ v. contains r.told x.ticket || v) (isnt (d.ticket == x.ticket) refl) ∙ or_false (contains r.told x.ticket) in
          record {
            ticket = k.ticket;
            unit = k.unit;
            attr = k.attr;
            request = k.request;
            live = k.live;
            going = k.going ∙ ap (λ v. is_live c && v) (sym still);
            marked = k.marked;
            freed = λ h. k.freed (sym still ∙ h);
          }
        where
          isnt : (v : Bool) → (d.ticket == x.ticket) ≡ v → (d.ticket == x.ticket) ≡ false
          isnt false same = same
          isnt true same = absurd (false≢true (sym is ∙ eq-eqb c.ticket d.ticket (k.ticket ∙ sym (eqb-true d.ticket x.ticket same))))

-- ---- all commands

-- what holds of the commands that are kept; `before`: those of which so many are used
pub record HaveCommands (names : List Name) (r : Side) (o : OutboxState) (before items : List Command) : Type 0 where
  pub commands : AreCommands names r items
  pub one_use : EachOf (IsOneUse o) items
  pub numbered : (ticket : ℕ) → count_by (has_ticket ticket) items ≤ 1
  pub used : (place : ℕ) → count_by (λ (c : Command). c.request == place && is_used o c) items ≡ count_by (λ (c : Command). c.request == place && is_used o c) before

-- a live command by both
pub record Both (names : List Name) (r : Side) (items : List Command) (d : RulesCommand) : Type 0 where
  pub c : Command
  pub there : In c items
  pub found : (v : Commands) → v.items ≡ items → find_ticket d.ticket v ≡ Some c
  pub is : IsCommand names r c d
  pub lives : is_live c ≡ true

pub both_of : (names : List Name) (r : Side) (items : List Command) → AreCommands names r items → ((ticket : ℕ) → count_by (has_ticket ticket) items ≤ 1) → EachOf (IsLiveNamed names r.both.trace) (entered r.both.trace)
    → (d : RulesCommand) → In d (entered r.both.trace) → has (leaves_ticket d.ticket) r.both.trace ≡ false → Both names r items d
both_of names r items are numbered live_named d there lives =
    let named : is_named names d ≡ true = each_in (IsLiveNamed names r.both.trace) (entered r.both.trace) d there live_named lives in
    let pair = in_pairs (IsCommand names r) items (filter (is_named names) (entered r.both.trace)) d (filter-in (is_named names) (entered r.both.trace) d there named) are in
    let has_it : has_ticket d.ticket pair.0 ≡ true = eq-eqb pair.0.ticket d.ticket pair.2.ticket in
    let y = in_find (has_ticket d.ticket) items pair.0 pair.1 has_it in
    let f = find_in (has_ticket d.ticket) items y.0 y.1 in
    let same : y.0 ≡ pair.0 = two_counted (has_ticket d.ticket) items y.0 pair.0 (numbered d.ticket) f.0 pair.1 f.1 has_it in
    record {
      c = pair.0;
      there = pair.1;
      found = λ v is. ap (find (has_ticket d.ticket)) is ∙ y.1 ∙ ap (λ (x : Command). Some x) same;
      is = pair.2;
      lives = pair.2.live ∙ ap not lives;
    }

-- one of them starts
pub all_started : (names : List Name) (r : Side) (o : OutboxState) (before items : List Command) → are_apart (entered r.both.trace) ≡ true → (d : RulesCommand) → In d (entered r.both.trace) → has (leaves_ticket d.ticket) r.both.trace ≡ false → was_free d r.both.trace ≡ true
    → contains r.marked d.ticket ≡ false → (b : Both names r items d) → HaveCommands names r o before items → HaveCommands names (record r { told = r.told ++ d.ticket ∷ [] }) o before (map (restaged Started d.ticket) items)
all_started names r o before items apart d there lives free unmarked b h = record {
  commands = pairs_mapped (IsCommand names r) (IsCommand names (record r { told = r.told ++ d.ticket ∷ [] })) (restaged Started d.ticket) items (filter (is_named names) (entered r.both.trace))
      (λ c x at k. one_started names r apart d there lives free unmarked c x (in-filter (is_named names) (entered r.both.trace) x at).0 k) h.commands;
  one_use = one_uses items h.one_use (λ c at. at);
  numbered = λ ticket.
      let same = count_members (λ (c : Command). has_ticket ticket (restaged Started d.ticket c)) (has_ticket ticket) items (λ c at. ap (λ n. n == ticket) (restaged_ticket Started d.ticket c)) in
      omega (arith, same, count_map (restaged Started d.ticket) (has_ticket ticket) items, h.numbered ticket);
  used = λ place.
      count_map (restaged Started d.ticket) (λ (c : Command). c.request == place && is_used o c) items
      ∙ count_members (λ (c : Command). (restaged Started d.ticket c).request == place && is_used o (restaged Started d.ticket c)) (λ (c : Command). c.request == place && is_used o c) items
      (λ c at. ap (λ n. (n == place) && is_used o (restaged Started d.ticket c)) (restaged_request Started d.ticket c) ∙ ap (λ v. (c.request == place) && (v || is_running_ticket (restaged Started d.ticket c).ticket o)) (alive c at)
      ∙ ap (λ n. (c.request == place) && (is_live c || is_running_ticket n o)) (restaged_ticket Started d.ticket c))
      ∙ h.used place;
}
  where
    alive : (c : Command) → In c items → is_live (restaged Started d.ticket c) ≡ is_live c
    alive c at = started_live d.ticket c (λ is. ap is_live (two_counted (has_ticket d.ticket) items c b.c (h.numbered d.ticket) at b.there is (eq-eqb b.c.ticket d.ticket b.is.ticket)) ∙ b.lives)

    one_uses : (cs : List Command) → EachOf (IsOneUse o) cs → ((c : Command) → In c cs → In c items) → EachOf (IsOneUse o) (map (restaged Started d.ticket) cs)
    one_uses [] each inside = tt
    one_uses (c ∷ cs) each inside = (
      ap (λ v. v && is_running_ticket (restaged Started d.ticket c).ticket o) (alive c (inside c (inl refl))) ∙ ap (λ n. is_live c && is_running_ticket n o) (restaged_ticket Started d.ticket c) ∙ each.0,
      one_uses cs each.1 (λ x at. inside x (inr at)),
    )

-- ---- what is withheld

head_alike : (a : Attr) → elim a [ Simple ↦ false | Ordered ↦ false | Head ↦ true ] ≡ is_head_there a
head_alike Simple = refl
head_alike Ordered = refl
head_alike Head = refl

module _ (names : List Name) (r : Side) (items : List Command) (are : AreCommands names r items) (live_named : EachOf (IsLiveNamed names r.both.trace) (entered r.both.trace)) where
  clearing_alike : (unit : ℕ) → list_any (λ (c : Command). c.unit == unit && is_marked c) items ≡ is_clearing_there r unit
  clearing_alike unit =
      pairs-any (IsCommand names r) (λ (c : Command). c.unit == unit && is_marked c) (λ (d : RulesCommand). not (has (leaves_ticket d.ticket) r.both.trace) && ((d.unit == unit) && is_marked_there r d)) items (filter (is_named names) (entered r.both.trace))
      (λ c d k. ap (λ n. (n == unit) && is_marked c) k.unit ∙ ap (λ v. (d.unit == unit) && v) (k.marked ∙ ap (λ v. v && contains r.marked d.ticket) k.live) ∙ turned (d.unit == unit) (not (has (leaves_ticket d.ticket) r.both.trace)) (contains r.marked d.ticket)) are
      ∙ sym (any_filter (λ (d : RulesCommand). (d.unit == unit) && is_marked_there r d) (λ (d : RulesCommand). not (has (leaves_ticket d.ticket) r.both.trace)) (filter (is_named names) (entered r.both.trace)))
      ∙ ap (list_any (λ (d : RulesCommand). (d.unit == unit) && is_marked_there r d)) (named_first names r.both.trace (entered r.both.trace) live_named)
      ∙ sym (any_filter (is_marked_there r) (λ (d : RulesCommand). d.unit == unit) (live r.both.trace))
    where
      turned : (a b c : Bool) → (a && (b && c)) ≡ (b && (a && c))
      turned true true c = refl
      turned true false c = refl
      turned false true c = refl
      turned false false c = refl

  pub withheld_alike : (s : State) → s.commands.items ≡ items → (c : Command) (d : RulesCommand) → IsCommand names r c d → is_live c ≡ true → is_withheld s c ≡ is_withheld_there r d
  withheld_alike s same c d k lives =
      ap (λ v. v || (is_head c && is_clearing c.unit s.commands)) (k.marked ∙ ap (λ v. v && contains r.marked d.ticket) lives)
      ∙ ap (λ (a : Attr). contains r.marked d.ticket || (elim a [ Simple ↦ false | Ordered ↦ false | Head ↦ true ] && is_clearing c.unit s.commands)) k.attr
      ∙ ap (λ v. contains r.marked d.ticket || (v && is_clearing c.unit s.commands)) (head_alike d.attr)
      ∙ ap (λ n. contains r.marked d.ticket || (is_head_there d.attr && is_clearing n s.commands)) k.unit
      ∙ ap (λ (xs : List Command). contains r.marked d.ticket || (is_head_there d.attr && list_any (λ (x : Command). x.unit == d.unit && is_marked x) xs)) same
      ∙ ap (λ v. contains r.marked d.ticket || (is_head_there d.attr && v)) (clearing_alike d.unit)
