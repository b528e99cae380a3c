-- What an event enabled and took out again doesn't start.
use Rattle.std.proofs.Common.{◌≡◌, ℕ, ◌==◌, inl, inr, cond, Bool, true, false, List, [], ◌∷◌, map, filter, find, Option, Some, None, nat_lt, length, refl, ap, sym, subst, ◌∙◌}
use Rattle.std.proofs.lemmas.Bool.{cond_both, eqb-true, false≢true}
use Rattle.iscsi_rules.specs.rules.Trace.{Command as RulesCommand}
use Rattle.iscsi_rules.proofs.general.ElementLemmas.{In}
use Rattle.iscsi_requests.specs.Cookies.{cookie_at}
use Rattle.iscsi_ffi_commands.specs.declared.command.Command.{Command}
use Rattle.iscsi_ffi_commands.specs.declared.command.Stage.TheVariants.{Started}
use Rattle.iscsi_ffi_commands.specs.Commands.{has_ticket, in_stage, is_live}
use Rattle.iscsi_ffi_rules.specs.declared.action.Action.TheVariants.{Start}
use Rattle.iscsi_ffi_steps.specs.State.{State, inserted, is_withheld, withhold}
use Rattle.iscsi_ffi_steps.specs.Steps.{start, start_each}
use Rattle.iscsi_ffi_steps.specs.Walk.{Doing, in_state, tell, with_stage}
use Rattle.iscsi_ffi_law.proofs.completions.DoneShape.{tickets_of}
use Rattle.iscsi_ffi_law.proofs.general.Members.{find_in}
use Rattle.iscsi_ffi_law.proofs.commands.Staging.{restaged, restaged_ticket}

-- no command with this ticket is live
abbrev pub IsOver : List Command → ℕ → Type 0
IsOver items k = (c : Command) → find (has_ticket k) items ≡ Some c → is_live c ≡ false

find_restaged : (ticket k : ℕ) (items : List Command) (c : Command) → find (has_ticket k) (map (restaged Started ticket) items) ≡ Some c → (x : Command) × (find (has_ticket k) items ≡ Some x) × (restaged Started ticket x ≡ c)
find_restaged ticket k [] c is = absurd (let no : ⊥ = cc in no)
find_restaged ticket k (y ∷ items) c is = by_test (has_ticket k y) refl (find_restaged ticket k items c) (ap (λ n. cond (n == k) (Some (restaged Started ticket y)) (find (has_ticket k) (map (restaged Started ticket) items))) (sym (restaged_ticket Started ticket y)) ∙ is)
  where
    by_test : (v : Bool) → has_ticket k y ≡ v → (find (has_ticket k) (map (restaged Started ticket) items) ≡ Some c → (x : Command) × (find (has_ticket k) items ≡ Some x) × (restaged Started ticket x ≡ c))
        → cond (has_ticket k y) (Some (restaged Started ticket y)) (find (has_ticket k) (map (restaged Started ticket) items)) ≡ Some c → (x : Command) × (cond (has_ticket k y) (Some y) (find (has_ticket k) items) ≡ Some x) × (restaged Started ticket x ≡ c)
    by_test true has later h = (y, ap (λ v. cond v (Some y) (find (has_ticket k) items)) has, (let same : Some (restaged Started ticket y) ≡ Some c = sym (ap (λ v. cond v (Some (restaged Started ticket y)) (find (has_ticket k) (map (restaged Started ticket) items))) has) ∙ h in let one : restaged Started ticket y ≡ c = cc in one))
    by_test false has later h =
        let x = later (sym (ap (λ v. cond v (Some (restaged Started ticket y)) (find (has_ticket k) (map (restaged Started ticket) items))) has) ∙ h) in
        (x.0, ap (λ v. cond v (Some y) (find (has_ticket k) items)) has ∙ x.1, x.2)

-- .. as another one starts
over_still : (items : List Command) (k ticket : ℕ) (c : Command) → find (has_ticket ticket) items ≡ Some c → is_live c ≡ true → IsOver items k → IsOver (map (restaged Started c.ticket) items) k
over_still items k ticket c found lives over e is =
    let x = find_restaged c.ticket k items e is in
    by_test x.0 x.1 x.2 (has_ticket c.ticket x.0) refl
  where
    by_test : (x : Command) → find (has_ticket k) items ≡ Some x → restaged Started c.ticket x ≡ e → (v : Bool) → has_ticket c.ticket x ≡ v → is_live e ≡ false
    by_test x at same false has = ap is_live (sym same ∙ ap (λ v. cond v (in_stage Started x) x) has) ∙ over x at
    by_test x at same true has =
        let first : x.ticket ≡ k = eqb-true x.ticket k (find_in (has_ticket k) items x at).1 in
        let second : x.ticket ≡ c.ticket = eqb-true x.ticket c.ticket has in
        let third : c.ticket ≡ ticket = eqb-true c.ticket ticket (find_in (has_ticket ticket) items c found).1 in
        let alike : Some x ≡ Some c = sym at ∙ ap (λ n. find (has_ticket n) items) (sym first ∙ second ∙ third) ∙ found in
        let one : x ≡ c = cc in
        absurd (false≢true (sym (over x at) ∙ ap is_live one ∙ lives))

start_items : (k ticket : ℕ) (c : Command) (d : Doing) → find (has_ticket ticket) d.state.commands.items ≡ Some c → is_live c ≡ true → IsOver d.state.commands.items k → IsOver (start c d).state.commands.items k
start_items k ticket c d found lives over =
    cond_both (is_withheld d.state c) (in_state (withhold c.ticket) d) (in_state (with_stage Started c.ticket) (tell (Start c.ticket c.unit c.attr (cookie_at c.request d.state.cookies)) d)) (λ (e : Doing). IsOver e.state.commands.items k)
    (λ is. cond_both (nat_lt (length d.state.withheld) d.state.room) (record d.state { withheld = inserted c.ticket d.state.withheld }) d.state (λ (s : State). IsOver s.commands.items k) (λ more. over) (λ full. over))
    (λ isnt. over_still d.state.commands.items k ticket c found lives over)

module _ (alive : ℕ → Bool) where
  abbrev is_alive : RulesCommand → Bool
  is_alive x = alive x.ticket

  abbrev step : Option Command → Doing → Doing
  step x e = elim x as (λ (y : Option Command). Doing) [ Some c ↦ cond (is_live c) (start c e) e | None ↦ e ]

  -- just those that are alive start
  pub alive_start : (ns : List RulesCommand) (d : Doing) → ((x : RulesCommand) → In x ns → alive x.ticket ≡ false → IsOver d.state.commands.items x.ticket) → start_each (tickets_of ns) d ≡ start_each (tickets_of (filter (λ (x : RulesCommand). alive x.ticket) ns)) d
  alive_start [] d over = refl
  alive_start (n ∷ ns) d over = by_alive (alive_start ns) (alive n.ticket) refl
    where
      on_step : (y : Option Command) → find (has_ticket n.ticket) d.state.commands.items ≡ y → (x : RulesCommand) → In x ns → alive x.ticket ≡ false → IsOver (step y d).state.commands.items x.ticket
      on_step None is x there dead = over x (inr there) dead
      on_step (Some c) is x there dead = by_live (is_live c) refl
        where
          by_live : (v : Bool) → is_live c ≡ v → IsOver (cond (is_live c) (start c d) d).state.commands.items x.ticket
          by_live true lives = subst (λ v. IsOver (cond v (start c d) d).state.commands.items x.ticket) (sym lives) (start_items x.ticket n.ticket c d is lives (over x (inr there) dead))
          by_live false dead' = subst (λ v. IsOver (cond v (start c d) d).state.commands.items x.ticket) (sym dead') (over x (inr there) dead)

      by_alive : ((e : Doing) → ((x : RulesCommand) → In x ns → alive x.ticket ≡ false → IsOver e.state.commands.items x.ticket) → start_each (tickets_of ns) e ≡ start_each (tickets_of (filter (λ (x : RulesCommand). alive x.ticket) ns)) e) → (v : Bool) → alive n.ticket ≡ v → start_each (tickets_of ns) (step (find (has_ticket n.ticket) d.state.commands.items) d) ≡ start_each (tickets_of (cond (alive n.ticket) (n ∷ filter (λ (x : RulesCommand). alive x.ticket) ns) (filter (λ (x : RulesCommand). alive x.ticket) ns))) d
      by_alive later true is =
          later (step (find (has_ticket n.ticket) d.state.commands.items) d) (on_step (find (has_ticket n.ticket) d.state.commands.items) refl)
          ∙ ap (λ v. start_each (tickets_of (cond v (n ∷ filter (λ (x : RulesCommand). alive x.ticket) ns) (filter (λ (x : RulesCommand). alive x.ticket) ns))) d) (sym is)
      by_alive later false is =
          ap (start_each (tickets_of ns)) (none_starts (find (has_ticket n.ticket) d.state.commands.items) refl)
          ∙ later d (λ x there. over x (inr there))
          ∙ ap (λ v. start_each (tickets_of (cond v (n ∷ filter (λ (x : RulesCommand). alive x.ticket) ns) (filter (λ (x : RulesCommand). alive x.ticket) ns))) d) (sym is)
        where
          none_starts : (y : Option Command) → find (has_ticket n.ticket) d.state.commands.items ≡ y → step y d ≡ d
          none_starts None at = refl
          none_starts (Some c) at = ap (λ v. cond v (start c d) d) (over n (inl refl) is c at)
