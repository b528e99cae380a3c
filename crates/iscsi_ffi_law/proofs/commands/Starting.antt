-- The commands that an event enables start, one after the other, or are withheld: by the steps as by the rules.
use Rattle.std.proofs.Common.{◌≡◌, ℕ, suc, ◌+◌, ◌<◌, ◌≤◌, ◌&&◌, inl, inr, not, cond, nat_lt, Bool, true, false, List, [], ◌∷◌, ◌++◌, length, map, filter, Option, Some, None, refl, ap, sym, subst, ◌∙◌, arith, lt-ltb, length-append, append_assoc}
use Rattle.std.proofs.lemmas.Bool.{or_parts}
use Rattle.std.proofs.lemmas.List.{append-nil}
use Rattle.iscsi_rules.specs.rules.Trace.{Command as RulesCommand, are_apart, entered, has, leaves_ticket, was_free}
use Rattle.iscsi_rules.proofs.general.ElementLemmas.{In}
use Rattle.iscsi_outbox_rules.specs.rules.Words.{contains}
use Rattle.iscsi_outbox_law.specs.private.Pairs.{EachOf}
use Rattle.iscsi_outbox_steps.specs.State.{State as OutboxState}
use Rattle.iscsi_requests.specs.Cookies.{cookie_at}
use Rattle.iscsi_ffi_commands.specs.declared.command.Command.{Command}
use Rattle.iscsi_ffi_commands.specs.declared.command.Stage.TheVariants.{Started}
use Rattle.iscsi_ffi_commands.specs.Commands.{is_live}
use Rattle.iscsi_ffi_rules.specs.declared.action.Action.{Action}
use Rattle.iscsi_ffi_rules.specs.declared.action.Action.TheVariants.{Start}
use Rattle.iscsi_ffi_rules.specs.rules.Clearing.{is_clearing as is_clearing_there, is_head as is_head_there, is_withheld as is_withheld_there}
use Rattle.iscsi_ffi_rules.specs.rules.Happening.{start as start_there}
use Rattle.iscsi_ffi_rules.specs.rules.Sides.{Side, cookie_of}
use Rattle.iscsi_ffi_steps.specs.State.{inserted, is_withheld, withhold}
use Rattle.iscsi_ffi_steps.specs.Steps.{start, start_each}
use Rattle.iscsi_ffi_steps.specs.Walk.{Doing, in_state, tell, with_stage}
use Rattle.iscsi_ffi_law.specs.Names.{Name, place_named}
use Rattle.iscsi_ffi_law.specs.Parts.{IsLiveNamed}
use Rattle.iscsi_ffi_law.proofs.completions.DoneShape.{tickets_of}
use Rattle.iscsi_ffi_law.proofs.commands.Staging.{Both, HaveCommands, all_started, both_of, restaged, withheld_alike}

-- these come among others, one after the other
abbrev pub all_inserted : List ℕ → List ℕ → List ℕ
all_inserted [] ts = ts
all_inserted (n ∷ ns) ts = all_inserted ns (inserted n ts)

one_longer : (n : ℕ) (ts : List ℕ) → length (inserted n ts) ≡ suc (length ts)
one_longer n [] = refl
one_longer n (t ∷ ts) = by_test (one_longer n ts) (nat_lt n t)
  where
    by_test : length (inserted n ts) ≡ suc (length ts) → (v : Bool) → length (cond v (n ∷ t ∷ ts) (t ∷ inserted n ts)) ≡ suc (suc (length ts))
    by_test rest true = refl
    by_test rest false = ap suc rest

abbrev pub withheld_of : Side → List RulesCommand → List RulesCommand
withheld_of r ns = filter (is_withheld_there r) ns

abbrev pub starting_of : Side → List RulesCommand → List RulesCommand
starting_of r ns = filter (λ (c : RulesCommand). not (is_withheld_there r c)) ns

-- it is live, and was enabled
pub record MayStart (r : Side) (d : RulesCommand) : Type 0 where
  pub there : In d (entered r.both.trace)
  pub lives : has (leaves_ticket d.ticket) r.both.trace ≡ false
  pub free : was_free d r.both.trace ≡ true

-- what has come of it
pub record Starts (names : List Name) (r : Side) (o : OutboxState) (before : List Command) (ns : List RulesCommand) (d e : Doing) : Type 0 where
  pub items : List Command
  pub is : e ≡ record {
    state = record d.state { commands = record d.state.commands { items = items }; withheld = all_inserted (tickets_of (withheld_of r ns)) d.state.withheld };
    actions = d.actions ++ map (start_there r) (starting_of r ns);
    forgets = d.forgets;
  }
  pub have : HaveCommands names (record r { told = r.told ++ tickets_of (starting_of r ns) }) o before items

module _ (names : List Name) (o : OutboxState) (before : List Command) where
  -- one is withheld
  held_back : (r : Side) (n : RulesCommand) (c : Command) (d : Doing) → c.ticket ≡ n.ticket → is_withheld d.state c ≡ true → length d.state.withheld < d.state.room
      → start c d ≡ record { state = record d.state { withheld = inserted n.ticket d.state.withheld }; actions = d.actions; forgets = d.forgets }
  held_back r n c d same is room =
      ap (λ v. cond v (in_state (withhold c.ticket) d) (in_state (with_stage Started c.ticket) (tell (Start c.ticket c.unit c.attr (cookie_at c.request d.state.cookies)) d))) is
      ∙ ap (λ v. in_state (λ s. cond v (record s { withheld = inserted c.ticket s.withheld }) s) d) (lt-ltb (length d.state.withheld) d.state.room room)
      ∙ ap (λ k. record { state = record d.state { withheld = inserted k d.state.withheld }; actions = d.actions; forgets = d.forgets }) same

  -- one starts
  set_off : (r : Side) (n : RulesCommand) (c : Command) (d : Doing) → c.ticket ≡ n.ticket → Start c.ticket c.unit c.attr (cookie_at c.request d.state.cookies) ≡ start_there r n → is_withheld d.state c ≡ false → length d.actions < d.state.room
      → start c d ≡ record { state = record d.state { commands = record d.state.commands { items = map (restaged Started n.ticket) d.state.commands.items } }; actions = d.actions ++ start_there r n ∷ []; forgets = d.forgets }
  set_off r n c d same action is room =
      ap (λ v. cond v (in_state (withhold c.ticket) d) (in_state (with_stage Started c.ticket) (tell (Start c.ticket c.unit c.attr (cookie_at c.request d.state.cookies)) d))) is
      ∙ ap (λ (a : Action). in_state (with_stage Started c.ticket) (tell a d)) action
      ∙ ap (λ v. in_state (with_stage Started c.ticket) (record d { actions = cond v (d.actions ++ start_there r n ∷ []) d.actions })) (lt-ltb (length d.actions) d.state.room room)
      ∙ ap (λ k. in_state (with_stage Started k) (record d { actions = d.actions ++ start_there r n ∷ [] })) same

  -- these start, whatever came before
  abbrev pub AllStart : List RulesCommand → Type 0
  AllStart ns = (r : Side) → are_apart (entered r.both.trace) ≡ true → EachOf (IsLiveNamed names r.both.trace) (entered r.both.trace) → ((n : RulesCommand) → In n ns → MayStart r n)
      → (d : Doing) → ((event place : ℕ) → place_named names event ≡ Some place → cookie_of r.asked event ≡ cookie_at place d.state.cookies) → HaveCommands names r o before d.state.commands.items
      → length d.actions + length ns ≤ d.state.room → length d.state.withheld + length ns ≤ d.state.room → Starts names r o before ns d (start_each (tickets_of ns) d)

  one_more : (n : RulesCommand) (ns : List RulesCommand) → AllStart ns → AllStart (n ∷ ns)
  one_more n ns later r apart live_named may d words h room held =
      by_withheld (is_withheld_there r n) refl
    where
      m : MayStart r n
      m = may n (inl refl)

      b : Both names r d.state.commands.items n
      b = both_of names r d.state.commands.items h.commands h.numbered live_named n m.there m.lives

      step : start_each (tickets_of (n ∷ ns)) d ≡ start_each (tickets_of ns) (start b.c d)
      step =
          ap (λ (x : Option Command). start_each (tickets_of ns) (elim x as (λ (y : Option Command). Doing) [ Some c ↦ cond (is_live c) (start c d) d | None ↦ d ])) (b.found d.state.commands refl)
          ∙ ap (λ v. start_each (tickets_of ns) (cond v (start b.c d) d)) b.lives

      alike : is_withheld d.state b.c ≡ is_withheld_there r n
      alike = withheld_alike names r d.state.commands.items h.commands live_named d.state refl b.c n b.is b.lives

      action : Start b.c.ticket b.c.unit b.c.attr (cookie_at b.c.request d.state.cookies) ≡ start_there r n
      action =
          ap (λ k. Start k b.c.unit b.c.attr (cookie_at b.c.request d.state.cookies)) b.is.ticket
          ∙ ap (λ u. Start n.ticket u b.c.attr (cookie_at b.c.request d.state.cookies)) b.is.unit
          ∙ ap (λ a. Start n.ticket n.unit a (cookie_at b.c.request d.state.cookies)) b.is.attr
          ∙ ap (λ w. Start n.ticket n.unit n.attr w) (sym (words n.arrival.event b.c.request b.is.request))

      either : (v : Bool) → is_withheld_there r n ≡ v → (withheld_of r (n ∷ ns) ≡ cond v (n ∷ withheld_of r ns) (withheld_of r ns)) × (starting_of r (n ∷ ns) ≡ cond (not v) (n ∷ starting_of r ns) (starting_of r ns))
      either v is = (
        ap (λ w. cond w (n ∷ withheld_of r ns) (withheld_of r ns)) is,
        ap (λ w. cond (not w) (n ∷ starting_of r ns) (starting_of r ns)) is,
      )

      -- what it comes to
      comes : List RulesCommand → List RulesCommand → List Command → Doing
      comes held' started items = record {
        state = record d.state { commands = record d.state.commands { items = items }; withheld = all_inserted (tickets_of held') d.state.withheld };
        actions = d.actions ++ map (start_there r) started;
        forgets = d.forgets;
      }

      by_withheld : (v : Bool) → is_withheld_there r n ≡ v → Starts names r o before (n ∷ ns) d (start_each (tickets_of (n ∷ ns)) d)
      by_withheld true is =
          let d1 : Doing = record { state = record d.state { withheld = inserted n.ticket d.state.withheld }; actions = d.actions; forgets = d.forgets } in
          let long : length (inserted n.ticket d.state.withheld) ≡ suc (length d.state.withheld) = one_longer n.ticket d.state.withheld in
          let k : Starts names r o before ns d1 (start_each (tickets_of ns) d1) = later r apart live_named (λ x at. may x (inr at)) d1 words h (omega (arith, room)) (omega (arith, held, long)) in
          let e = either true is in
          record {
            items = k.items;
            is = step ∙ ap (start_each (tickets_of ns)) (held_back r n b.c d b.is.ticket (alike ∙ is) (omega (arith, held))) ∙ k.is
                ∙ ap (λ xs. comes xs (starting_of r ns) k.items) (sym e.0) ∙ ap (λ xs. comes (withheld_of r (n ∷ ns)) xs k.items) (sym e.1);
            have = subst (λ xs. HaveCommands names (record r { told = r.told ++ tickets_of xs }) o before k.items) (sym e.1) k.have;
          }
      by_withheld false is =
          let d1 : Doing = record { state = record d.state { commands = record d.state.commands { items = map (restaged Started n.ticket) d.state.commands.items } }; actions = d.actions ++ start_there r n ∷ []; forgets = d.forgets } in
          let r1 : Side = record r { told = r.told ++ n.ticket ∷ [] } in
          let long : length (d.actions ++ start_there r n ∷ []) ≡ length d.actions + 1 = length-append d.actions (start_there r n ∷ []) in
          let unmarked : contains r.marked n.ticket ≡ false = (or_parts (contains r.marked n.ticket) (is_head_there n.attr && is_clearing_there r n.unit) is).0 in
          let k : Starts names r1 o before ns d1 (start_each (tickets_of ns) d1)
          = later r1 apart live_named (λ x at. let y = may x (inr at) in record { there = y.there; lives = y.lives; free = y.free }) d1 words (all_started names r o before d.state.commands.items apart n m.there m.lives m.free unmarked b h)
          (omega (arith, room, long)) (omega (arith, held)) in
          let e = either false is in
          record {
            items = k.items;
            is = step ∙ ap (start_each (tickets_of ns)) (set_off r n b.c d b.is.ticket action (alike ∙ is) (omega (arith, room))) ∙ k.is
                ∙ ap (λ (xs : List Action). record { state = record d.state { commands = record d.state.commands { items = k.items }; withheld = all_inserted (tickets_of (withheld_of r ns)) d.state.withheld }; actions = xs; forgets = d.forgets })
                (append_assoc d.actions (start_there r n ∷ []) (map (start_there r) (starting_of r ns)))
                ∙ ap (λ xs. comes xs (n ∷ starting_of r ns) k.items) (sym e.0) ∙ ap (λ xs. comes (withheld_of r (n ∷ ns)) xs k.items) (sym e.1);
            have = subst (λ xs. HaveCommands names (record r { told = r.told ++ tickets_of xs }) o before k.items) (sym e.1)
                (subst (λ ks. HaveCommands names (record r { told = ks }) o before k.items) (append_assoc r.told (n.ticket ∷ []) (tickets_of (starting_of r ns))) k.have);
          }

  pub all_start : (ns : List RulesCommand) → AllStart ns
  all_start [] r apart live_named may d words h room held = record {
    items = d.state.commands.items;
    is = ap (λ (xs : List Action). record { state = d.state; actions = xs; forgets = d.forgets }) (sym (append-nil d.actions));
    have = subst (λ ks. HaveCommands names (record r { told = ks }) o before d.state.commands.items) (sym (append-nil r.told)) h;
  }
  all_start (n ∷ ns) r apart live_named may d words h room held = one_more n ns (all_start ns) r apart live_named may d words h room held
