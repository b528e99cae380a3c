-- A use of a request ends: with the last one the request goes, and its command.
use Rattle.std.proofs.Common.{◌≡◌, ℕ, ◌+◌, ◌-◌, ◌<◌, ◌≤◌, ◌==◌, ◌&&◌, ⊎_elim, not, cond, nat_lt, Bool, true, false, List, [], ◌∷◌, count_by, filter, Option, Some, None, is_some, refl, ap, sym, subst, ◌∙◌, arith, lt-ltb, le-ltb, ne_eqb}
use Rattle.std.proofs.lemmas.Bool.{eqb-true, eqb-false, eq-eqb, ltb-false, cases_lt}
use Rattle.iscsi_rules.proofs.general.CountLemmas.{one, count-cons}
use Rattle.iscsi_rules.proofs.general.ElementLemmas.{In}
use Rattle.iscsi_requests.specs.Cookies.{Cookies, Request, cookie_at, has_place, removed, uses_at, with_uses}
use Rattle.iscsi_ffi_commands.specs.declared.command.Command.{Command}
use Rattle.iscsi_ffi_rules.specs.declared.action.Action.{Action}
use Rattle.iscsi_ffi_rules.specs.declared.action.Action.TheVariants.{Forget}
use Rattle.iscsi_ffi_rules.specs.promises.Words.{is_forget}
use Rattle.iscsi_ffi_steps.specs.State.{State}
use Rattle.iscsi_ffi_steps.specs.Walk.{Doing, forget, release_if, release_one}
use Rattle.iscsi_ffi_law.specs.Parts.{AreCounted}
use Rattle.iscsi_ffi_law.specs.Uses.{uses_of}
use Rattle.iscsi_ffi_law.proofs.requests.Cookies.{counted_with, counted_without, is_word, none_counted, place_used, uses_elsewhere, uses_here, uses_nothing, uses_others, word_gone, words_left, words_same}
use Rattle.iscsi_ffi_law.proofs.calls.Ended.{IsReleased, left_of}
use Rattle.iscsi_ffi_law.proofs.own_pdus.Flags.{is_used_place}
use Rattle.iscsi_ffi_law.proofs.requests.Kept.{filter_all, filter_members}

-- how many uses of a place end with this
abbrev pub ending : Option ℕ → ℕ → ℕ
ending (Some q) place = one (q == place)
ending None place = 0

-- a use has ended, and is taken off
pub record Released (s : State) (acts : List Action) (d : Doing) : Type 0 where
  pub cookies : Cookies
  pub forgets : List Action
  pub is : d ≡ record { state = left_of s cookies s.awake s.over; actions = acts; forgets = forgets }
  pub released : IsReleased s cookies forgets

module _ (s : State) (acts : List Action) (c : AreCounted s.cookies) (known : (x : Command) → In x s.commands.items → 1 ≤ uses_at x.request s.cookies) where
  abbrev pub before : Doing
  before = record { state = s; actions = acts; forgets = [] }

  is_used_at : (place : ℕ) → 1 ≤ uses_of place s → is_used_place s place ≡ true
  is_used_at place some = lt-ltb 0 (uses_of place s) (omega (arith, some))

  -- what has no uses isn't kept
  kept_used : (place cookie : ℕ) → uses_at place s.cookies ≡ uses_of place s → count_by (is_word place cookie) s.cookies.requests ≡ cond (is_used_place s place) (count_by (is_word place cookie) s.cookies.requests) 0
  kept_used place cookie same = by_use (is_used_place s place) refl
    where
      by_use : (w : Bool) → is_used_place s place ≡ w → count_by (is_word place cookie) s.cookies.requests ≡ cond w (count_by (is_word place cookie) s.cookies.requests) 0
      by_use true is = refl
      by_use false is =
          let none : uses_of place s ≤ 0 = ltb-false 0 (uses_of place s) is in
          none_counted s.cookies c place (λ (r : Request). r.cookie == cookie) (omega (arith, none, same))

  -- nothing ends
  none_released : ((place : ℕ) → uses_at place s.cookies ≡ uses_of place s) → Released s acts before
  none_released uses = record {
    cookies = s.cookies;
    forgets = [];
    is = ap (λ xs. record { state = record s { commands = record s.commands { items = xs } }; actions = acts; forgets = [] })
        (sym (filter_all (λ (x : Command). is_used_place s x.request) s.commands.items (λ x there. is_used_at x.request (omega (arith, known x there, uses x.request)))));
    released = record { counted = c; uses = uses; kept = λ place cookie. kept_used place cookie (uses place); are = tt; words = λ word. omega arith };
  }

  module _ (q : ℕ) (room : 0 < s.room) (uses : (place : ℕ) → uses_at place s.cookies ≡ uses_of place s + one (q == place)) where
    uses_q : uses_at q s.cookies ≡ uses_of q s + 1
    uses_q = uses q ∙ ap (λ w. uses_of q s + one w) (eq-eqb q q refl)

    has : has_place q s.cookies ≡ true
    has = place_used s.cookies c q (omega (arith, uses_q))

    elsewhere : (place : ℕ) → (place == q) ≡ false → uses_at place s.cookies ≡ uses_of place s
    elsewhere place other =
        let isnt : one (q == place) ≡ 0 = ap one (ne_eqb q place (λ same. eqb-false place q other (sym same))) in
        omega (arith, uses place, isnt)

    releases : release_if (Some q) before ≡ release_one q before
    releases = ap (λ w. cond w (release_one q before) before) has

    -- it is used still
    used_still : (1 < uses_at q s.cookies) → Released s acts (release_one q before)
    used_still more =
        let on : nat_lt 1 (uses_at q s.cookies) ≡ true = lt-ltb 1 (uses_at q s.cookies) more in
        let v : Cookies = with_uses (uses_at q s.cookies - 1) q s.cookies in
        let some : 1 ≤ uses_at q s.cookies - 1 = omega (arith, more) in
        record {
          cookies = with_uses (uses_at q s.cookies - 1) q s.cookies;
          forgets = [];
          is =
              ap (λ w. record {
                state = record s {
                  cookies = cond w (with_uses (uses_at q s.cookies - 1) q s.cookies) (removed q s.cookies);
                  commands = cond (is_some (cond w None (Some (cookie_at q s.cookies)))) (record s.commands { items = filter (λ (x : Command). not (x.request == q)) s.commands.items }) s.commands;
                };
                actions = acts;
                forgets = forget s.room [] (cond w None (Some (cookie_at q s.cookies)));
              }) on
              ∙ ap (λ xs. record { state = record s { cookies = with_uses (uses_at q s.cookies - 1) q s.cookies; commands = record s.commands { items = xs } }; actions = acts; forgets = [] })
              (sym (filter_all (λ (x : Command). is_used_place s x.request) s.commands.items (λ x there. all_used x there)));
          released = record {
            counted = counted_with s.cookies c (uses_at q s.cookies - 1) q some;
            uses = λ place. either place (place == q) refl;
            kept = λ place cookie. words_same s.cookies c (uses_at q s.cookies - 1) q some (λ p k. p == place && k == cookie) ∙ kept_so place cookie;
            are = tt;
            words = λ word. omega (arith, words_same s.cookies c (uses_at q s.cookies - 1) q some (λ p k. k == word));
          };
        }
      where
        all_used : (x : Command) → In x s.commands.items → is_used_place s x.request ≡ true
        all_used x there = by_place (x.request == q) refl
          where
            by_place : (w : Bool) → (x.request == q) ≡ w → is_used_place s x.request ≡ true
            by_place true is = is_used_at x.request (omega (arith, more, uses_q, ap (λ p. uses_of p s) (eqb-true x.request q is)))
            by_place false is = is_used_at x.request (omega (arith, known x there, elsewhere x.request is))

        either : (place : ℕ) (w : Bool) → (place == q) ≡ w → uses_at place (with_uses (uses_at q s.cookies - 1) q s.cookies) ≡ uses_of place s
        either place true is =
            let at : place ≡ q = eqb-true place q is in
            let here : uses_at q (with_uses (uses_at q s.cookies - 1) q s.cookies) ≡ uses_at q s.cookies - 1 = uses_here s.cookies c (uses_at q s.cookies - 1) q (omega (arith, more)) has in
            ap (λ p. uses_at p (with_uses (uses_at q s.cookies - 1) q s.cookies)) at ∙ here ∙ (let less : uses_at q s.cookies - 1 ≡ uses_of q s = omega (arith, uses_q) in less) ∙ ap (λ p. uses_of p s) (sym at)
        either place false is = uses_elsewhere s.cookies c (uses_at q s.cookies - 1) q (omega (arith, more)) place is ∙ elsewhere place is

        kept_so : (place cookie : ℕ) → count_by (is_word place cookie) s.cookies.requests ≡ cond (is_used_place s place) (count_by (is_word place cookie) s.cookies.requests) 0
        kept_so place cookie = by_place (place == q) refl
          where
            by_place : (w : Bool) → (place == q) ≡ w → count_by (is_word place cookie) s.cookies.requests ≡ cond (is_used_place s place) (count_by (is_word place cookie) s.cookies.requests) 0
            by_place true is = ap (λ w. cond w (count_by (is_word place cookie) s.cookies.requests) 0) (sym (is_used_at place (omega (arith, more, uses_q, ap (λ p. uses_of p s) (eqb-true place q is)))))
            by_place false is = kept_used place cookie (elsewhere place is)

    -- it goes
    used_no_more : uses_at q s.cookies ≤ 1 → Released s acts (release_one q before)
    used_no_more last =
        let off : nat_lt 1 (uses_at q s.cookies) ≡ false = le-ltb 1 (uses_at q s.cookies) last in
        record {
          cookies = removed q s.cookies;
          forgets = Forget (cookie_at q s.cookies) ∷ [];
          is =
              ap (λ w. record {
                state = record s {
                  cookies = cond w (with_uses (uses_at q s.cookies - 1) q s.cookies) (removed q s.cookies);
                  commands = cond (is_some (cond w None (Some (cookie_at q s.cookies)))) (record s.commands { items = filter (λ (x : Command). not (x.request == q)) s.commands.items }) s.commands;
                };
                actions = acts;
                forgets = forget s.room [] (cond w None (Some (cookie_at q s.cookies)));
              }) off
              ∙ ap (λ w. record { state = record s { cookies = removed q s.cookies; commands = record s.commands { items = filter (λ (x : Command). not (x.request == q)) s.commands.items } }; actions = acts; forgets = cond w (Forget (cookie_at q s.cookies) ∷ []) [] }) (lt-ltb 0 s.room room)
              ∙ ap (λ xs. record { state = record s { cookies = removed q s.cookies; commands = record s.commands { items = xs } }; actions = acts; forgets = Forget (cookie_at q s.cookies) ∷ [] })
              (filter_members (λ (x : Command). not (x.request == q)) (λ (x : Command). is_used_place s x.request) s.commands.items (λ x there. sym (used_but x there)));
          released = record {
            counted = counted_without s.cookies c q;
            uses = λ place. either place (place == q) refl;
            kept = λ place cookie. words_left s.cookies c q place cookie ∙ kept_but place cookie (place == q) refl;
            are = (refl, tt);
            words = λ word. omega (arith, word_gone s.cookies c q has word, count-cons (is_forget word) (Forget (cookie_at q s.cookies)) []);
          };
        }
      where
        unused : is_used_place s q ≡ false
        unused = le-ltb 0 (uses_of q s) (omega (arith, last, uses_q))

        used_but : (x : Command) → In x s.commands.items → is_used_place s x.request ≡ not (x.request == q)
        used_but x there = by_place (x.request == q) refl
          where
            by_place : (w : Bool) → (x.request == q) ≡ w → is_used_place s x.request ≡ not w
            by_place true is = ap (is_used_place s) (eqb-true x.request q is) ∙ unused
            by_place false is = is_used_at x.request (omega (arith, known x there, elsewhere x.request is))

        either : (place : ℕ) (w : Bool) → (place == q) ≡ w → uses_at place (removed q s.cookies) ≡ uses_of place s
        either place true is =
            let at : place ≡ q = eqb-true place q is in
            ap (λ p. uses_at p (removed q s.cookies)) at ∙ uses_nothing s.cookies c q ∙ (let none : 0 ≡ uses_of q s = omega (arith, last, uses_q) in none) ∙ ap (λ p. uses_of p s) (sym at)
        either place false is = uses_others s.cookies c q place is ∙ elsewhere place is

        kept_but : (place cookie : ℕ) (w : Bool) → (place == q) ≡ w → cond (not w) (count_by (is_word place cookie) s.cookies.requests) 0 ≡ cond (is_used_place s place) (count_by (is_word place cookie) s.cookies.requests) 0
        kept_but place cookie true is = ap (λ w. cond w (count_by (is_word place cookie) s.cookies.requests) 0) (sym (ap (is_used_place s) (eqb-true place q is) ∙ unused))
        kept_but place cookie false is = kept_used place cookie (elsewhere place is)

    one_released : Released s acts (release_if (Some q) before)
    one_released = subst (Released s acts) (sym releases) (⊎_elim used_still used_no_more (cases_lt 1 (uses_at q s.cookies)))

  pub released_if : (x : Option ℕ) → 0 < s.room → ((place : ℕ) → uses_at place s.cookies ≡ uses_of place s + ending x place) → Released s acts (release_if x before)
  released_if None room uses = none_released (λ place. omega (arith, uses place))
  released_if (Some q) room uses = one_released q room uses
