-- Several uses end, one after the other.
use Rattle.std.proofs.Common.{◌≡◌, ℕ, ◌+◌, ◌-◌, ◌<◌, ◌≤◌, ◌==◌, ◌&&◌, ⊎_elim, not, cond, nat_lt, Bool, true, false, List, [], ◌∷◌, ◌++◌, length, count_by, filter, Option, Some, None, is_some, refl, ap, sym, subst, ◌∙◌, arith, lt-ltb, le-ltb, ne_eqb, length-append}
use Rattle.std.proofs.lemmas.Bool.{eqb-true, eqb-false, eq-eqb, ltb-false, cases_lt}
use Rattle.iscsi_rules.proofs.general.CountLemmas.{one, count-cons}
use Rattle.iscsi_rules.proofs.general.ElementLemmas.{In}
use Rattle.std.proofs.lemmas.List.Sums.{sum_by-append}
use Rattle.iscsi_outbox_law.proofs.general.PairLemmas.{each-append}
use Rattle.iscsi_requests.specs.Cookies.{Cookies, Request, cookie_at, has_place, removed, uses_at, with_uses}
use Rattle.iscsi_ffi_commands.specs.declared.command.Command.{Command}
use Rattle.iscsi_ffi_rules.specs.declared.action.Action.{Action}
use Rattle.iscsi_ffi_rules.specs.declared.action.Action.TheVariants.{Forget}
use Rattle.iscsi_ffi_rules.specs.promises.Words.{is_forget}
use Rattle.iscsi_ffi_steps.specs.State.{State}
use Rattle.iscsi_ffi_steps.specs.Walk.{Doing, forget, release_if, release_one}
use Rattle.iscsi_ffi_law.specs.Alike.{AreForgets, is_any_forget}
use Rattle.iscsi_ffi_law.specs.Parts.{AreCounted}
use Rattle.iscsi_ffi_law.specs.Uses.{uses_of}
use Rattle.iscsi_ffi_law.proofs.requests.Cookies.{counted_with, counted_without, is_word, none_counted, place_used, uses_elsewhere, uses_here, uses_nothing, uses_others, word_gone, words_left, words_same}
use Rattle.iscsi_ffi_law.proofs.requests.Kept.{filter_all, filter_members}
use Rattle.iscsi_ffi_law.proofs.requests.Releasing.{Released, ending}

abbrev pub releases : List (Option ℕ) → Doing → Doing
releases [] d = d
releases (x ∷ xs) d = releases xs (release_if x d)

-- so many uses of a place end
abbrev pub endings : List (Option ℕ) → ℕ → ℕ
endings [] place = 0
endings (x ∷ xs) place = ending x place + endings xs place

filter_both : {A : Type 0} (p q both : A → Bool) (xs : List A) → ((x : A) → both x ≡ (q x && p x)) → filter p (filter q xs) ≡ filter both xs
filter_both p q both [] same = refl
filter_both p q both (x ∷ xs) same = by_test (filter_both p q both xs same) (q x) refl
  where
    by_test : filter p (filter q xs) ≡ filter both xs → (v : Bool) → q x ≡ v → filter p (cond v (x ∷ filter q xs) (filter q xs)) ≡ filter both (x ∷ xs)
    by_test later true is = ap (λ ys. cond (p x) (x ∷ ys) ys) later ∙ ap (λ v. cond v (x ∷ filter both xs) (filter both xs)) (sym (same x ∙ ap (λ v. v && p x) is))
    by_test later false is = later ∙ ap (λ v. cond v (x ∷ filter both xs) (filter both xs)) (sym (same x ∙ ap (λ v. v && p x) is))

-- so far: a place has so many uses still, of those that it had
pub record IsReleasedTo (s : State) (u : ℕ → ℕ) (v : Cookies) (items : List Command) (forgets : List Action) : Type 0 where
  pub counted : AreCounted v
  pub uses : (place : ℕ) → uses_at place v ≡ u place
  pub kept : (place cookie : ℕ) → count_by (is_word place cookie) v.requests ≡ cond (nat_lt 0 (u place)) (count_by (is_word place cookie) s.cookies.requests) 0
  pub items_are : items ≡ filter (λ (c : Command). nat_lt 0 (u c.request)) s.commands.items
  pub are : AreForgets forgets
  pub words : (word : ℕ) → count_by (is_forget word) forgets + count_by (λ (q : Request). q.cookie == word) v.requests ≡ count_by (λ (q : Request). q.cookie == word) s.cookies.requests

module _ (s : State) (acts : List Action) where
  abbrev pub standing : Cookies → List Command → List Action → Doing
  standing v items forgets = record { state = record s { cookies = v; commands = record s.commands { items = items } }; actions = acts; forgets = forgets }

  -- what has come of it
  pub record Comes (u : ℕ → ℕ) (few : ℕ) (d : Doing) : Type 0 where
    pub cookies : Cookies
    pub items : List Command
    pub forgets : List Action
    pub is : d ≡ standing cookies items forgets
    pub released : IsReleasedTo s u cookies items forgets
    pub short : length forgets ≤ few

  module _ (u u' : ℕ → ℕ) (q : ℕ) (less : (place : ℕ) → u place ≡ u' place + one (q == place)) (v : Cookies) (items : List Command) (forgets : List Action) (c : IsReleasedTo s u v items forgets) (room : length forgets < s.room) where
    uses_q : uses_at q v ≡ u' q + 1
    uses_q = c.uses q ∙ less q ∙ ap (λ w. u' q + one w) (eq-eqb q q refl)

    has : has_place q v ≡ true
    has = place_used v c.counted q (omega (arith, uses_q))

    elsewhere : (place : ℕ) → (place == q) ≡ false → u place ≡ u' place
    elsewhere place other = let isnt : one (q == place) ≡ 0 = ap one (ne_eqb q place (λ same. eqb-false place q other (sym same))) in omega (arith, less place, isnt)

    -- used still
    still : 1 < uses_at q v → Comes u' (length forgets + 1) (release_one q (standing v items forgets))
    still more =
        let on : nat_lt 1 (uses_at q v) ≡ true = lt-ltb 1 (uses_at q v) more in
        record {
          cookies = with_uses (uses_at q v - 1) q v;
          items = items;
          forgets = forgets;
          is = ap (λ w. record {
            state = record s {
              cookies = cond w (with_uses (uses_at q v - 1) q v) (removed q v);
              commands = cond (is_some (cond w None (Some (cookie_at q v)))) (record s.commands { items = filter (λ (x : Command). not (x.request == q)) items }) (record s.commands { items = items });
            };
            actions = acts;
            forgets = forget s.room forgets (cond w None (Some (cookie_at q v)));
          }) on;
          released = record {
            counted = counted_with v c.counted (uses_at q v - 1) q (omega (arith, more));
            uses = λ place. either place (place == q) refl;
            kept = λ place cookie. words_same v c.counted (uses_at q v - 1) q (omega (arith, more)) (λ p k. p == place && k == cookie) ∙ c.kept place cookie ∙ ap (λ w. cond w (count_by (is_word place cookie) s.cookies.requests) 0) (positive place);
            items_are = c.items_are ∙ filter_members (λ (x : Command). nat_lt 0 (u x.request)) (λ (x : Command). nat_lt 0 (u' x.request)) s.commands.items (λ x there. positive x.request);
            are = c.are;
            words = λ word. omega (arith, words_same v c.counted (uses_at q v - 1) q (omega (arith, more)) (λ p k. k == word), c.words word);
          };
          short = omega arith;
        }
      where
        either : (place : ℕ) (w : Bool) → (place == q) ≡ w → uses_at place (with_uses (uses_at q v - 1) q v) ≡ u' place
        either place true is =
            let at : place ≡ q = eqb-true place q is in
            let here : uses_at q (with_uses (uses_at q v - 1) q v) ≡ uses_at q v - 1 = uses_here v c.counted (uses_at q v - 1) q (omega (arith, more)) has in
            ap (λ p. uses_at p (with_uses (uses_at q v - 1) q v)) at ∙ here ∙ (let one_less : uses_at q v - 1 ≡ u' q = omega (arith, uses_q) in one_less) ∙ ap u' (sym at)
        either place false is = uses_elsewhere v c.counted (uses_at q v - 1) q (omega (arith, more)) place is ∙ c.uses place ∙ elsewhere place is

        positive : (place : ℕ) → nat_lt 0 (u place) ≡ nat_lt 0 (u' place)
        positive place = by_place (place == q) refl
          where
            by_place : (w : Bool) → (place == q) ≡ w → nat_lt 0 (u place) ≡ nat_lt 0 (u' place)
            by_place true is =
                let at : place ≡ q = eqb-true place q is in
                let some : 0 < u' q = omega (arith, more, uses_q) in
                let some_too : 0 < u q = omega (arith, more, c.uses q) in
                ap (λ p. nat_lt 0 (u p)) at ∙ lt-ltb 0 (u q) some_too ∙ sym (ap (λ p. nat_lt 0 (u' p)) at ∙ lt-ltb 0 (u' q) some)
            by_place false is = ap (nat_lt 0) (elsewhere place is)

    -- the last one
    last : uses_at q v ≤ 1 → Comes u' (length forgets + 1) (release_one q (standing v items forgets))
    last few =
        let off : nat_lt 1 (uses_at q v) ≡ false = le-ltb 1 (uses_at q v) few in
        record {
          cookies = removed q v;
          items = filter (λ (x : Command). not (x.request == q)) items;
          forgets = forgets ++ Forget (cookie_at q v) ∷ [];
          is =
              ap (λ w. record {
                state = record s {
                  cookies = cond w (with_uses (uses_at q v - 1) q v) (removed q v);
                  commands = cond (is_some (cond w None (Some (cookie_at q v)))) (record s.commands { items = filter (λ (x : Command). not (x.request == q)) items }) (record s.commands { items = items });
                };
                actions = acts;
                forgets = forget s.room forgets (cond w None (Some (cookie_at q v)));
              }) off
              ∙ ap (λ w. standing (removed q v) (filter (λ (x : Command). not (x.request == q)) items) (cond w (forgets ++ Forget (cookie_at q v) ∷ []) forgets)) (lt-ltb (length forgets) s.room room);
          released = record {
            counted = counted_without v c.counted q;
            uses = λ place. either place (place == q) refl;
            kept = λ place cookie. words_left v c.counted q place cookie ∙ ap (λ n. cond (not (place == q)) n 0) (c.kept place cookie) ∙ both place (count_by (is_word place cookie) s.cookies.requests) (place == q) refl;
            items_are = ap (filter (λ (x : Command). not (x.request == q))) c.items_are
                ∙ filter_both (λ (x : Command). not (x.request == q)) (λ (x : Command). nat_lt 0 (u x.request)) (λ (x : Command). nat_lt 0 (u' x.request)) s.commands.items (λ x. positive x.request (x.request == q) refl);
            are = each-append (λ a. is_any_forget a ≡ true) forgets (Forget (cookie_at q v) ∷ []) c.are (refl, tt);
            words = λ word. omega (
              arith,
              word_gone v c.counted q has word,
              sum_by-append (λ (a : Action). cond (is_forget word a) 1 0) forgets (Forget (cookie_at q v) ∷ []),
              count-cons (is_forget word) (Forget (cookie_at q v)) [],
              c.words word,
            );
          };
          short = omega (arith, length-append forgets (Forget (cookie_at q v) ∷ []));
        }
      where
        unused : u' q ≡ 0
        unused = omega (arith, few, uses_q)

        positive : (place : ℕ) (w : Bool) → (place == q) ≡ w → nat_lt 0 (u' place) ≡ (nat_lt 0 (u place) && not w)
        positive place true is = ap (λ p. nat_lt 0 (u' p)) (eqb-true place q is) ∙ le-ltb 0 (u' q) (omega (arith, unused)) ∙ sym (none (nat_lt 0 (u place)))
          where
            none : (b : Bool) → (b && false) ≡ false
            none true = refl
            none false = refl
        positive place false is = ap (nat_lt 0) (sym (elsewhere place is)) ∙ sym (whole (nat_lt 0 (u place)))
          where
            whole : (b : Bool) → (b && true) ≡ b
            whole true = refl
            whole false = refl

        either : (place : ℕ) (w : Bool) → (place == q) ≡ w → uses_at place (removed q v) ≡ u' place
        either place true is = ap (λ p. uses_at p (removed q v)) (eqb-true place q is) ∙ uses_nothing v c.counted q ∙ sym unused ∙ ap u' (sym (eqb-true place q is))
        either place false is = uses_others v c.counted q place is ∙ c.uses place ∙ elsewhere place is

        both : (place n : ℕ) (w : Bool) → (place == q) ≡ w → cond (not w) (cond (nat_lt 0 (u place)) n 0) 0 ≡ cond (nat_lt 0 (u' place)) n 0
        both place n true is = sym (ap (λ b. cond b n 0) (ap (λ p. nat_lt 0 (u' p)) (eqb-true place q is) ∙ le-ltb 0 (u' q) (omega (arith, unused))))
        both place n false is = ap (λ b. cond (nat_lt 0 b) n 0) (elsewhere place is)

    one_comes : Comes u' (length forgets + 1) (release_if (Some q) (standing v items forgets))
    one_comes = subst (Comes u' (length forgets + 1)) (sym (ap (λ w. cond w (release_one q (standing v items forgets)) (standing v items forgets)) has)) (⊎_elim still last (cases_lt 1 (uses_at q v)))

  -- all of them
  all_come : (xs : List (Option ℕ)) (u : ℕ → ℕ) (v : Cookies) (items : List Command) (forgets : List Action) → IsReleasedTo s (λ place. u place + endings xs place) v items forgets → length forgets + length xs ≤ s.room
      → Comes u (length forgets + length xs) (releases xs (standing v items forgets))
  all_come [] u v items forgets c room = record { cookies = v; items = items; forgets = forgets; is = refl; released = whole u v items forgets c; short = omega arith }
    where
      whole : (w : ℕ → ℕ) (v' : Cookies) (items' : List Command) (forgets' : List Action) → IsReleasedTo s (λ place. w place + 0) v' items' forgets' → IsReleasedTo s w v' items' forgets'
      whole w v' items' forgets' k =
          let plus : (n : ℕ) → n + 0 ≡ n = λ n. omega arith in
          record {
            counted = k.counted;
            uses = λ place. k.uses place ∙ plus (w place);
            kept = λ place cookie. k.kept place cookie ∙ ap (λ n. cond (nat_lt 0 n) (count_by (is_word place cookie) s.cookies.requests) 0) (plus (w place));
            items_are = k.items_are ∙ filter_members (λ (x : Command). nat_lt 0 (w x.request + 0)) (λ (x : Command). nat_lt 0 (w x.request)) s.commands.items (λ x there. ap (nat_lt 0) (plus (w x.request)));
            are = k.are;
            words = k.words;
          }
  all_come (None ∷ xs) u v items forgets c room =
      let k : Comes u (length forgets + length xs) (releases xs (standing v items forgets)) = all_come xs u v items forgets (less c) (omega (arith, room)) in
      record { cookies = k.cookies; items = k.items; forgets = k.forgets; is = k.is; released = k.released; short = omega (arith, k.short) }
    where
      less : IsReleasedTo s (λ place. u place + (0 + endings xs place)) v items forgets → IsReleasedTo s (λ place. u place + endings xs place) v items forgets
      less k =
          let plus : (n m : ℕ) → n + (0 + m) ≡ n + m = λ n m. omega arith in
          record {
            counted = k.counted;
            uses = λ place. k.uses place ∙ plus (u place) (endings xs place);
            kept = λ place cookie. k.kept place cookie ∙ ap (λ n. cond (nat_lt 0 n) (count_by (is_word place cookie) s.cookies.requests) 0) (plus (u place) (endings xs place));
            items_are = k.items_are ∙ filter_members (λ (x : Command). nat_lt 0 (u x.request + (0 + endings xs x.request))) (λ (x : Command). nat_lt 0 (u x.request + endings xs x.request)) s.commands.items (λ x there. ap (nat_lt 0) (plus (u x.request) (endings xs x.request)));
            are = k.are;
            words = k.words;
          }
  all_come (Some q ∷ xs) u v items forgets c room =
      let first : Comes (λ place. u place + endings xs place) (length forgets + 1) (release_if (Some q) (standing v items forgets))
      = one_comes (λ place. u place + (one (q == place) + endings xs place)) (λ place. u place + endings xs place) q (λ place. omega arith) v items forgets c (omega (arith, room)) in
      let k : Comes u (length first.forgets + length xs) (releases xs (standing first.cookies first.items first.forgets)) = all_come xs u first.cookies first.items first.forgets first.released (omega (arith, room, first.short)) in
      record { cookies = k.cookies; items = k.items; forgets = k.forgets; is = ap (releases xs) first.is ∙ k.is; released = k.released; short = omega (arith, k.short, first.short) }

  -- from a state in which so many uses have ended
  pub all_released : AreCounted s.cookies → ((x : Command) → In x s.commands.items → 1 ≤ uses_at x.request s.cookies) → (xs : List (Option ℕ)) → length xs ≤ s.room
      → ((place : ℕ) → uses_at place s.cookies ≡ uses_of place s + endings xs place) → Released s acts (releases xs (record { state = s; actions = acts; forgets = [] }))
  all_released counted known xs room uses =
      let begun : IsReleasedTo s (λ place. uses_of place s + endings xs place) s.cookies s.commands.items [] = record {
        counted = counted;
        uses = uses;
        kept = λ place cookie. by_use place cookie (nat_lt 0 (uses_of place s + endings xs place)) refl;
        items_are = sym (filter_all (λ (x : Command). nat_lt 0 (uses_of x.request s + endings xs x.request)) s.commands.items (λ x there. lt-ltb 0 (uses_of x.request s + endings xs x.request) (omega (arith, known x there, uses x.request))));
        are = tt;
        words = λ word. omega arith;
      } in
      let k : Comes (λ place. uses_of place s) (0 + length xs) (releases xs (record { state = s; actions = acts; forgets = [] })) = all_come xs (λ place. uses_of place s) s.cookies s.commands.items [] begun (omega (arith, room)) in
      record {
        cookies = k.cookies;
        forgets = k.forgets;
        is = k.is ∙ ap (λ ys. standing k.cookies ys k.forgets) k.released.items_are;
        released = record { counted = k.released.counted; uses = k.released.uses; kept = k.released.kept; are = k.released.are; words = k.released.words };
      }
    where
      by_use : (place cookie : ℕ) (w : Bool) → nat_lt 0 (uses_of place s + endings xs place) ≡ w → count_by (is_word place cookie) s.cookies.requests ≡ cond w (count_by (is_word place cookie) s.cookies.requests) 0
      by_use place cookie true is = refl
      by_use place cookie false is =
          let none : uses_of place s + endings xs place ≤ 0 = ltb-false 0 (uses_of place s + endings xs place) is in
          none_counted s.cookies counted place (λ (r : Request). r.cookie == cookie) (omega (arith, none, uses place))
