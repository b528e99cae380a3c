-- Commands start also where uses have ended before: what ends has nothing to do with commands that are live.
use Rattle.std.proofs.Common.{◌≡◌, ℕ, ◌≤◌, ◌==◌, ◌&&◌, ◌||◌, inl, inr, not, cond, Bool, true, false, List, [], ◌∷◌, length, map, count_by, filter, find, Option, Some, None, is_some, nat_lt, refl, ap, sym, subst, ◌∙◌, arith}
use Rattle.std.specs.List.{list_any}
use Rattle.std.proofs.lemmas.Bool.{and_from, cond_both, eqb-true, eq-eqb, false≢true}
use Rattle.iscsi_rules.proofs.general.BoolLemmas.{and_parts}
use Rattle.iscsi_rules.proofs.general.CountLemmas.{one, count-cons}
use Rattle.iscsi_rules.proofs.general.ElementLemmas.{In, filter-in, in-filter}
use Rattle.iscsi_rules.proofs.traces.NewlyLemmas.{filter-twice}
use Rattle.iscsi_requests.specs.Cookies as cookies
use Rattle.iscsi_requests.specs.Cookies.{Cookies, cookie_at, has_place, last_cookie, used_less, uses_at}
use Rattle.iscsi_ffi_commands.specs.declared.command.Command.{Command}
use Rattle.iscsi_ffi_commands.specs.declared.command.Stage.{Stage}
use Rattle.iscsi_ffi_commands.specs.declared.command.Stage.TheVariants.{Cleared, Entered, Marked, Over, Started}
use Rattle.iscsi_ffi_commands.specs.Commands.{Commands, forgotten, has_ticket, in_stage, is_head, is_live, is_marked}
use Rattle.iscsi_ffi_rules.specs.declared.action.Action.{Action}
use Rattle.iscsi_ffi_rules.specs.declared.action.Action.TheVariants.{Start}
use Rattle.iscsi_ffi_steps.specs.State.{State, inserted, is_withheld, withhold}
use Rattle.iscsi_ffi_steps.specs.Steps.{start, start_each}
use Rattle.iscsi_ffi_steps.specs.Walk.{Doing, forget, in_state, tell, with_stage}
use Rattle.iscsi_ffi_law.specs.Parts.{AreCounted}
use Rattle.iscsi_ffi_law.proofs.arrivals.Asked.{find_nothing}
use Rattle.iscsi_ffi_law.proofs.requests.Cookies.{cookie_there, used_there}
use Rattle.iscsi_ffi_law.proofs.requests.Core.{Core, all_core, all_released_core, release_core}
use Rattle.iscsi_ffi_law.proofs.calls.Fitting.{count_map}
use Rattle.iscsi_ffi_law.proofs.own_pdus.Flags.{is_used_place}
use Rattle.iscsi_ffi_law.proofs.requests.Kept.{count_members, filter_all}
use Rattle.iscsi_ffi_law.proofs.general.Members.{Passing, counted_in, find_in, in_counted, two_counted, map_in}
use Rattle.iscsi_ffi_law.proofs.requests.Releases.{releases}
use Rattle.iscsi_ffi_law.proofs.requests.Releasing.{Released}

-- ---- what uses that end leave, by the requests alone

abbrev pub keeps_one : Option ℕ → Cookies → ℕ → Bool
keeps_one (Some q) v r = not (has_place q v && (is_some (last_cookie q v) && (r == q)))
keeps_one None v r = true

abbrev pub cookies_one : Option ℕ → Cookies → Cookies
cookies_one (Some q) v = cond (has_place q v) (used_less q v) v
cookies_one None v = v

abbrev pub forgets_one : ℕ → Option ℕ → Cookies → List Action → List Action
forgets_one room (Some q) v fs = cond (has_place q v) (forget room fs (last_cookie q v)) fs
forgets_one room None v fs = fs

abbrev pub keeps_all : List (Option ℕ) → Cookies → ℕ → Bool
keeps_all [] v r = true
keeps_all (x ∷ xs) v r = keeps_one x v r && keeps_all xs (cookies_one x v) r

abbrev pub cookies_all : List (Option ℕ) → Cookies → Cookies
cookies_all [] v = v
cookies_all (x ∷ xs) v = cookies_all xs (cookies_one x v)

abbrev pub forgets_all : ℕ → List (Option ℕ) → Cookies → List Action → List Action
forgets_all room [] v fs = fs
forgets_all room (x ∷ xs) v fs = forgets_all room xs (cookies_one x v) (forgets_one room x v fs)

abbrev with_items : Commands → List Command → Commands
with_items v items = record v { items = items }

one_core : (room : ℕ) (x : Option ℕ) (k : Core) → release_core room x k ≡ record { cookies = cookies_one x k.cookies; commands = record k.commands { items = filter (λ (c : Command). keeps_one x k.cookies c.request) k.commands.items }; forgets = forgets_one room x k.cookies k.forgets }
one_core room None k = ap (λ (xs : List Command). record { cookies = k.cookies; commands = record k.commands { items = xs }; forgets = k.forgets }) (sym (filter_all (λ (c : Command). true) k.commands.items (λ c there. refl)))
one_core room (Some q) k = by_test (has_place q k.cookies) (is_some (last_cookie q k.cookies))
  where
    by_test : (v w : Bool)
        → cond v (record { cookies = used_less q k.cookies; commands = cond w (forgotten q k.commands) k.commands; forgets = forget room k.forgets (last_cookie q k.cookies) }) k
        ≡ record { cookies = cond v (used_less q k.cookies) k.cookies; commands = record k.commands { items = filter (λ (c : Command). not (v && (w && (c.request == q)))) k.commands.items }; forgets = cond v (forget room k.forgets (last_cookie q k.cookies)) k.forgets }
    by_test true true = refl
    by_test true false = ap (λ (xs : List Command). record { cookies = used_less q k.cookies; commands = record k.commands { items = xs }; forgets = forget room k.forgets (last_cookie q k.cookies) }) (sym (filter_all (λ (c : Command). true) k.commands.items (λ c there. refl)))
    by_test false w = ap (λ (xs : List Command). record { cookies = k.cookies; commands = record k.commands { items = xs }; forgets = k.forgets }) (sym (filter_all (λ (c : Command). true) k.commands.items (λ c there. refl)))

pub core_is : (room : ℕ) (xs : List (Option ℕ)) (k : Core) → all_core room xs k ≡ record { cookies = cookies_all xs k.cookies; commands = record k.commands { items = filter (λ (c : Command). keeps_all xs k.cookies c.request) k.commands.items }; forgets = forgets_all room xs k.cookies k.forgets }
core_is room [] k = ap (λ (ys : List Command). record { cookies = k.cookies; commands = record k.commands { items = ys }; forgets = k.forgets }) (sym (filter_all (λ (c : Command). true) k.commands.items (λ c there. refl)))
core_is room (x ∷ xs) k =
    ap (all_core room xs) (one_core room x k)
    ∙ core_is room xs (record { cookies = cookies_one x k.cookies; commands = record k.commands { items = filter (λ (c : Command). keeps_one x k.cookies c.request) k.commands.items }; forgets = forgets_one room x k.cookies k.forgets })
    ∙ ap (λ (ys : List Command). record { cookies = cookies_all xs (cookies_one x k.cookies); commands = record k.commands { items = ys }; forgets = forgets_all room xs (cookies_one x k.cookies) (forgets_one room x k.cookies k.forgets) })
    (filter-twice (λ (c : Command). keeps_all xs (cookies_one x k.cookies) c.request) (λ (c : Command). keeps_one x k.cookies c.request) k.commands.items)

-- ---- lists

find_none_left : (p q : Command → Bool) (xs : List Command) → find p xs ≡ None → find p (filter q xs) ≡ None
find_none_left p q [] none = refl
find_none_left p q (x ∷ xs) none = by_test (find_none_left p q xs) (p x) refl none
  where
    by_test : (find p xs ≡ None → find p (filter q xs) ≡ None) → (v : Bool) → p x ≡ v → cond v (Some x) (find p xs) ≡ None → find p (cond (q x) (x ∷ filter q xs) (filter q xs)) ≡ None
    by_test rest true is h = absurd (let no : ⊥ = cc in no)
    by_test rest false is h = by_kept (q x)
      where
        by_kept : (w : Bool) → find p (cond w (x ∷ filter q xs) (filter q xs)) ≡ None
        by_kept true = ap (λ v. cond v (Some x) (find p (filter q xs))) is ∙ rest h
        by_kept false = rest h

pub find_one_left : (p q : Command → Bool) (xs : List Command) (c : Command) → count_by p xs ≤ 1 → find p xs ≡ Some c → find p (filter q xs) ≡ cond (q c) (Some c) None
find_one_left p q [] c few is = absurd (let no : ⊥ = cc in no)
find_one_left p q (x ∷ xs) c few is = by_test (find_one_left p q xs c) (p x) refl is
  where
    by_test : (count_by p xs ≤ 1 → find p xs ≡ Some c → find p (filter q xs) ≡ cond (q c) (Some c) None) → (v : Bool) → p x ≡ v → cond v (Some x) (find p xs) ≡ Some c → find p (cond (q x) (x ∷ filter q xs) (filter q xs)) ≡ cond (q c) (Some c) None
    by_test rest true passes h =
        let same : x ≡ c = cc in
        let here : one (p x) ≡ 1 = ap one passes in
        let none : count_by p xs ≡ 0 = omega (arith, few, here, count-cons p x xs) in
        subst (λ y. find p (cond (q x) (x ∷ filter q xs) (filter q xs)) ≡ cond (q y) (Some y) None) same (by_kept (q x) (find_none_left p q xs (nothing xs none)))
      where
        nothing : (ys : List Command) → count_by p ys ≡ 0 → find p ys ≡ None
        nothing ys none = find_nothing p ys (λ y there. by_pass y there (p y) refl)
          where
            by_pass : (y : Command) → In y ys → (v : Bool) → p y ≡ v → p y ≡ false
            by_pass y there false k = k
            by_pass y there true k = absurd (let some = in_counted p ys y there k in let no : ⊥ = omega (arith, some, none) in no)

        by_kept : (w : Bool) → find p (filter q xs) ≡ None → find p (cond w (x ∷ filter q xs) (filter q xs)) ≡ cond w (Some x) None
        by_kept true none = ap (λ v. cond v (Some x) (find p (filter q xs))) passes
        by_kept false none = none
    by_test rest false passes h = by_kept (q x)
      where
        later : find p (filter q xs) ≡ cond (q c) (Some c) None
        later = rest (omega (arith, few, count-cons p x xs)) h

        by_kept : (w : Bool) → find p (cond w (x ∷ filter q xs) (filter q xs)) ≡ cond (q c) (Some c) None
        by_kept true = ap (λ v. cond v (Some x) (find p (filter q xs))) passes ∙ later
        by_kept false = later

any_kept : (p q : Command → Bool) (xs : List Command) → ((x : Command) → In x xs → p x ≡ true → q x ≡ true) → list_any p (filter q xs) ≡ list_any p xs
any_kept p q [] all = refl
any_kept p q (x ∷ xs) all = by_test (any_kept p q xs (λ y there. all y (inr there))) (p x) refl (q x) refl
  where
    by_test : list_any p (filter q xs) ≡ list_any p xs → (v : Bool) → p x ≡ v → (w : Bool) → q x ≡ w → list_any p (cond w (x ∷ filter q xs) (filter q xs)) ≡ (p x || list_any p xs)
    by_test rest v is true k = ap (λ u. p x || u) rest
    by_test rest true is false k = absurd (false≢true (sym k ∙ all x (inl refl) is))
    by_test rest false is false k = rest ∙ ap (λ u. u || list_any p xs) (sym is)

pub filter_restaged : (keep : ℕ → Bool) (f : Command → Command) (xs : List Command) → ((c : Command) → (f c).request ≡ c.request) → map f (filter (λ (c : Command). keep c.request) xs) ≡ filter (λ (c : Command). keep c.request) (map f xs)
filter_restaged keep f [] same = refl
filter_restaged keep f (x ∷ xs) same = by_test (filter_restaged keep f xs same) (keep x.request) refl
  where
    by_test : map f (filter (λ (c : Command). keep c.request) xs) ≡ filter (λ (c : Command). keep c.request) (map f xs) → (v : Bool) → keep x.request ≡ v → map f (cond v (x ∷ filter (λ (c : Command). keep c.request) xs) (filter (λ (c : Command). keep c.request) xs)) ≡ filter (λ (c : Command). keep c.request) (f x ∷ map f xs)
    by_test rest true is = ap (λ ys. f x ∷ ys) rest ∙ ap (λ w. cond w (f x ∷ filter (λ (c : Command). keep c.request) (map f xs)) (filter (λ (c : Command). keep c.request) (map f xs))) (sym (ap keep (same x) ∙ is))
    by_test rest false is = rest ∙ ap (λ w. cond w (f x ∷ filter (λ (c : Command). keep c.request) (map f xs)) (filter (λ (c : Command). keep c.request) (map f xs))) (sym (ap keep (same x) ∙ is))

marked_live : (c : Command) → is_marked c ≡ true → is_live c ≡ true
marked_live c h = by_stage c.stage h
  where
    by_stage : (x : Stage) → elim x [ Entered ↦ false | Marked ↦ true | Started ↦ false | Cleared ↦ true | Over ↦ false ] ≡ true → elim x [ Entered ↦ true | Marked ↦ true | Started ↦ true | Cleared ↦ true | Over ↦ false ] ≡ true
    by_stage Entered k = refl
    by_stage Marked k = refl
    by_stage Started k = refl
    by_stage Cleared k = refl
    by_stage Over k = absurd (false≢true k)

-- ---- commands start

module _ (v' : Cookies) (keep : ℕ → Bool) (fs : List Action) where
  abbrev pub rel : Doing → Doing
  rel d = record {
    state = record d.state { cookies = v'; commands = record d.state.commands { items = filter (λ (c : Command). keep c.request) d.state.commands.items } };
    actions = d.actions;
    forgets = fs;
  }

  -- the requests of those that are live are kept, with their words
  pub record LiveKept (d : Doing) : Type 0 where
    pub live : (c : Command) → In c d.state.commands.items → is_live c ≡ true → keep c.request ≡ true
    pub words : (c : Command) → In c d.state.commands.items → is_live c ≡ true → cookie_at c.request v' ≡ cookie_at c.request d.state.cookies
    pub numbered : (ticket : ℕ) → count_by (has_ticket ticket) d.state.commands.items ≤ 1

  abbrev restage : ℕ → Command → Command
  restage ticket c = cond (has_ticket ticket c) (in_stage Started c) c

  abbrev sets_off : Command → Doing → Doing
  sets_off c d = in_state (with_stage Started c.ticket) (tell (Start c.ticket c.unit c.attr (cookie_at c.request d.state.cookies)) d)

  withheld_same : (d : Doing) → LiveKept d → (c : Command) → is_withheld (rel d).state c ≡ is_withheld d.state c
  withheld_same d h c = ap (λ v. is_marked c || (is_head c && v)) (any_kept (λ (x : Command). x.unit == c.unit && is_marked x) (λ (x : Command). keep x.request) d.state.commands.items
      (λ x there is. h.live x there (marked_live x (and_parts (x.unit == c.unit) (is_marked x) is).1)))

  start_rel : (d : Doing) → LiveKept d → (c : Command) → In c d.state.commands.items → is_live c ≡ true → start c (rel d) ≡ rel (start c d)
  start_rel d h c there lives =
      ap (λ v. cond v (in_state (withhold c.ticket) (rel d)) (sets_off c (rel d))) (withheld_same d h c)
      ∙ by_test (is_withheld d.state c)
    where
      held_back : (w : Bool) → in_state (λ s. cond w (record s { withheld = inserted c.ticket s.withheld }) s) (rel d) ≡ rel (in_state (λ s. cond w (record s { withheld = inserted c.ticket s.withheld }) s) d)
      held_back true = refl
      held_back false = refl

      by_test : (v : Bool) → cond v (in_state (withhold c.ticket) (rel d)) (sets_off c (rel d)) ≡ rel (cond v (in_state (withhold c.ticket) d) (sets_off c d))
      by_test true = held_back (nat_lt (length d.state.withheld) d.state.room)
      by_test false =
          ap (λ n. in_state (with_stage Started c.ticket) (tell (Start c.ticket c.unit c.attr n) (rel d))) (h.words c there lives)
          ∙ ap (λ (xs : List Command). record {
            state = record d.state { cookies = v'; commands = record d.state.commands { items = xs } };
            actions = (tell (Start c.ticket c.unit c.attr (cookie_at c.request d.state.cookies)) d).actions;
            forgets = fs;
          }) (filter_restaged keep (restage c.ticket) d.state.commands.items (λ x. cond_both (has_ticket c.ticket x) (in_stage Started x) x (λ (y : Command). y.request ≡ x.request) (λ is. refl) (λ isnt. refl)))

  kept_on : (d : Doing) → LiveKept d → (c : Command) → In c d.state.commands.items → is_live c ≡ true → LiveKept (start c d)
  kept_on d h c there lives = cond_both (is_withheld d.state c) (in_state (withhold c.ticket) d) (sets_off c d) LiveKept
      (λ is. cond_both (nat_lt (length d.state.withheld) d.state.room) (record d.state { withheld = inserted c.ticket d.state.withheld }) d.state (λ (s : State). LiveKept (record d { state = s }))
      (λ k. record { live = h.live; words = h.words; numbered = h.numbered }) (λ k. record { live = h.live; words = h.words; numbered = h.numbered }))
      (λ isnt. record {
        live = λ x at alive. let y = map_in (restage c.ticket) d.state.commands.items x at in (both y.0 x y.1 y.2 alive).0;
        words = λ x at alive. let y = map_in (restage c.ticket) d.state.commands.items x at in (both y.0 x y.1 y.2 alive).1;
        numbered = λ ticket.
            let same = count_members (λ (x : Command). has_ticket ticket (restage c.ticket x)) (has_ticket ticket) d.state.commands.items (λ x at. ap (λ n. n == ticket) (cond_both (has_ticket c.ticket x) (in_stage Started x) x (λ (y : Command). y.ticket ≡ x.ticket) (λ is. refl) (λ isnt'. refl))) in
            omega (arith, same, count_map (restage c.ticket) (has_ticket ticket) d.state.commands.items, h.numbered ticket);
      })
    where
      both : (y x : Command) → In y d.state.commands.items → restage c.ticket y ≡ x → is_live x ≡ true → (keep x.request ≡ true) × (cookie_at x.request v' ≡ cookie_at x.request d.state.cookies)
      both y x at is alive = by_ticket (has_ticket c.ticket y) refl is
        where
          by_ticket : (v : Bool) → has_ticket c.ticket y ≡ v → cond v (in_stage Started y) y ≡ x → (keep x.request ≡ true) × (cookie_at x.request v' ≡ cookie_at x.request d.state.cookies)
          by_ticket true has eq =
              let same : y ≡ c = two_counted (has_ticket c.ticket) d.state.commands.items y c (h.numbered c.ticket) at there has (eq-eqb c.ticket c.ticket refl) in
              let request : c.request ≡ x.request = ap (λ (z : Command). z.request) (sym same) ∙ ap (λ (z : Command). z.request) eq in
              (subst (λ n. keep n ≡ true) request (h.live c there lives), subst (λ n. cookie_at n v' ≡ cookie_at n d.state.cookies) request (h.words c there lives))
          by_ticket false has eq = (subst (λ (z : Command). keep z.request ≡ true) eq (h.live y at (ap is_live eq ∙ alive)), subst (λ (z : Command). cookie_at z.request v' ≡ cookie_at z.request d.state.cookies) eq (h.words y at (ap is_live eq ∙ alive)))

  abbrev step : Option Command → Doing → Doing
  step x e = elim x as (λ (y : Option Command). Doing) [ Some c ↦ cond (is_live c) (start c e) e | None ↦ e ]

  -- one of them, and those behind it
  one_rel : (k : ℕ) (ks : List ℕ) → ((d : Doing) → LiveKept d → start_each ks (rel d) ≡ rel (start_each ks d)) → (d : Doing) → LiveKept d → start_each (k ∷ ks) (rel d) ≡ rel (start_each (k ∷ ks) d)
  one_rel k ks later d h = by_found (find (has_ticket k) d.state.commands.items) refl
    where
      by_found : (x : Option Command) → find (has_ticket k) d.state.commands.items ≡ x → start_each (k ∷ ks) (rel d) ≡ rel (start_each (k ∷ ks) d)
      by_found None is =
          ap (λ y. start_each ks (step y (rel d))) (find_none_left (has_ticket k) (λ (c : Command). keep c.request) d.state.commands.items is)
          ∙ later d h ∙ ap (λ y. rel (start_each ks (step y d))) (sym is)
      by_found (Some c) is =
          let at = find_in (has_ticket k) d.state.commands.items c is in
          ap (λ y. start_each ks (step y (rel d))) (find_one_left (has_ticket k) (λ (x : Command). keep x.request) d.state.commands.items c (h.numbered k) is)
          ∙ by_live at.0 (is_live c) refl ∙ ap (λ y. rel (start_each ks (step y d))) (sym is)
        where
          by_live : In c d.state.commands.items → (v : Bool) → is_live c ≡ v → start_each ks (step (cond (keep c.request) (Some c) None) (rel d)) ≡ rel (start_each ks (cond (is_live c) (start c d) d))
          by_live there true lives =
              ap (λ w. start_each ks (step (cond w (Some c) None) (rel d))) (h.live c there lives)
              ∙ ap (λ w. start_each ks (cond w (start c (rel d)) (rel d))) lives
              ∙ ap (start_each ks) (start_rel d h c there lives)
              ∙ later (start c d) (kept_on d h c there lives)
              ∙ ap (λ w. rel (start_each ks (cond w (start c d) d))) (sym lives)
          by_live there false lives =
              cond_both (keep c.request) (Some c) None (λ (y : Option Command). start_each ks (step y (rel d)) ≡ start_each ks (rel d)) (λ kept. ap (λ w. start_each ks (cond w (start c (rel d)) (rel d))) lives) (λ lost. refl)
              ∙ later d h ∙ ap (λ w. rel (start_each ks (cond w (start c d) d))) (sym lives)

  pub each_rel : (ks : List ℕ) (d : Doing) → LiveKept d → start_each ks (rel d) ≡ rel (start_each ks d)
  each_rel [] d h = refl
  each_rel (k ∷ ks) d h = one_rel k ks (each_rel ks) d h

-- ---- where these uses have ended

-- .. from a state in which so many uses have ended
-- .. by the requests alone
pub rel_is : (s : State) (acts : List Action) (xs : List (Option ℕ)) → releases xs (record { state = s; actions = acts; forgets = [] }) ≡ rel (cookies_all xs s.cookies) (keeps_all xs s.cookies) (forgets_all s.room xs s.cookies []) (record { state = s; actions = acts; forgets = [] })
rel_is s acts xs =
    all_released_core xs (record { state = s; actions = acts; forgets = [] })
    ∙ ap (λ (k : Core). record { state = record s { cookies = k.cookies; commands = k.commands }; actions = acts; forgets = k.forgets }) (core_is s.room xs (record { cookies = s.cookies; commands = s.commands; forgets = [] }))

module _ (s : State) (acts : List Action) (xs : List (Option ℕ)) (counted : AreCounted s.cookies) (r : Released s acts (releases xs (record { state = s; actions = acts; forgets = [] }))) where
  abbrev found : Doing
  found = record { state = s; actions = acts; forgets = [] }

  by_parts : releases xs found ≡ rel (cookies_all xs s.cookies) (keeps_all xs s.cookies) (forgets_all s.room xs s.cookies []) found
  by_parts =
      all_released_core xs found
      ∙ ap (λ (k : Core). record { state = record s { cookies = k.cookies; commands = k.commands }; actions = acts; forgets = k.forgets }) (core_is s.room xs (record { cookies = s.cookies; commands = s.commands; forgets = [] }))

  both_items : filter (λ (c : Command). keeps_all xs s.cookies c.request) s.commands.items ≡ filter (λ (c : Command). is_used_place s c.request) s.commands.items
  both_items = ap (λ (d : Doing). d.state.commands.items) (sym by_parts ∙ r.is)

  both_cookies : cookies_all xs s.cookies ≡ r.cookies
  both_cookies = ap (λ (d : Doing). d.state.cookies) (sym by_parts ∙ r.is)

  pub kept_used : (c : Command) → In c s.commands.items → is_used_place s c.request ≡ true → keeps_all xs s.cookies c.request ≡ true
  kept_used c there used =
      (in-filter (λ (x : Command). keeps_all xs s.cookies x.request) s.commands.items c
      (subst (In c) (sym both_items) (filter-in (λ (x : Command). is_used_place s x.request) s.commands.items c there used))).1

  -- a request that is used has its word still
  word_kept : (p : ℕ) → is_used_place s p ≡ true → 1 ≤ uses_at p s.cookies → cookie_at p (cookies_all xs s.cookies) ≡ cookie_at p s.cookies
  word_kept p used some =
      let y = used_there s.cookies counted p some in
      let before : 1 ≤ count_by (λ (q : cookies.Request). q.place == p && q.cookie == y.0.cookie) s.cookies.requests
      = in_counted (λ (q : cookies.Request). q.place == p && q.cookie == y.0.cookie) s.cookies.requests y.0 y.1 (and_from (y.0.place == p) (y.0.cookie == y.0.cookie) (eq-eqb y.0.place p y.2) (eq-eqb y.0.cookie y.0.cookie refl)) in
      let kept = r.released.kept p y.0.cookie ∙ ap (λ v. cond v (count_by (λ (q : cookies.Request). q.place == p && q.cookie == y.0.cookie) s.cookies.requests) 0) used in
      let z : Passing (λ (q : cookies.Request). q.place == p && q.cookie == y.0.cookie) r.cookies.requests = counted_in (λ (q : cookies.Request). q.place == p && q.cookie == y.0.cookie) r.cookies.requests (omega (arith, before, kept)) in
      let parts = and_parts (z.x.place == p) (z.x.cookie == y.0.cookie) z.passes in
      ap (cookie_at p) both_cookies
      ∙ ap (λ n. cookie_at n r.cookies) (sym (eqb-true z.x.place p parts.0)) ∙ cookie_there r.cookies r.released.counted z.x z.there ∙ eqb-true z.x.cookie y.0.cookie parts.1
      ∙ sym (cookie_there s.cookies counted y.0 y.1) ∙ ap (λ n. cookie_at n s.cookies) y.2

  pub starts_released : (ks : List ℕ) → ((c : Command) → In c s.commands.items → is_live c ≡ true → is_used_place s c.request ≡ true) → ((c : Command) → In c s.commands.items → 1 ≤ uses_at c.request s.cookies) → ((ticket : ℕ) → count_by (has_ticket ticket) s.commands.items ≤ 1)
      → (start_each ks found).state.cookies ≡ s.cookies → (start_each ks found).state.room ≡ s.room → (start_each ks found).forgets ≡ [] → start_each ks (releases xs found) ≡ releases xs (start_each ks found)
  starts_released ks used known numbered same_cookies same_room none =
      ap (start_each ks) by_parts
      ∙ each_rel (cookies_all xs s.cookies) (keeps_all xs s.cookies) (forgets_all s.room xs s.cookies []) ks found
      (record { live = λ c there lives. kept_used c there (used c there lives); words = λ c there lives. word_kept c.request (used c there lives) (known c there); numbered = numbered })
      ∙ ap (λ v. rel (cookies_all xs v) (keeps_all xs v) (forgets_all s.room xs v []) started) (sym same_cookies)
      ∙ ap (λ n. rel (cookies_all xs started.state.cookies) (keeps_all xs started.state.cookies) (forgets_all n xs started.state.cookies []) started) (sym same_room)
      ∙ ap (λ fs. rel (cookies_all xs started.state.cookies) (keeps_all xs started.state.cookies) (forgets_all started.state.room xs started.state.cookies fs) started) (sym none)
      ∙ sym (all_released_core xs started
      ∙ ap (λ (k : Core). record { state = record started.state { cookies = k.cookies; commands = k.commands }; actions = started.actions; forgets = k.forgets }) (core_is started.state.room xs (record { cookies = started.state.cookies; commands = started.state.commands; forgets = started.forgets })))
    where
      started : Doing
      started = start_each ks found
