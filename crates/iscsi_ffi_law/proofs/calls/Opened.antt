-- What the steps begin with.
use Rattle.std.proofs.Common.{◌≡◌, ℕ, ◌+◌, ◌<◌, ◌==◌, cond, find, nat_le, unwrap_or, Bool, true, false, List, [], ◌∷◌, length, map, count_by, replicate, get_or, Option, Some, None, refl, ap, sym, subst, arith, ◌≤◌, zero, suc}
use Rattle.std.proofs.lemmas.List.{get_or-map, length-map, length-replicate}
use Rattle.iscsi_outbox_rules.specs.rules.Run.{new_link}
use Rattle.iscsi_outbox_law.specs.private.Pairs.{EachOf, PairsOf}
use Rattle.iscsi_outbox_law.proofs.calls.Opened.{stands_opened}
use Rattle.iscsi_requests.specs.Conns.{of_conn}
use Rattle.iscsi_requests.specs.Numbers as numbers
use Rattle.iscsi_requests.specs.Numbers.{size_for}
use Rattle.iscsi_requests.specs.Replies.{has_log_place}
use Rattle.iscsi_requests.specs.declared.functions.WaitingFunction.{WaitingFunction}
use Rattle.iscsi_requests.specs.declared.replies.WaitingReply.{WaitingReply}
use Rattle.iscsi_ffi_rules.specs.rules.Calls.{Interface}
use Rattle.iscsi_ffi_rules.specs.rules.Run.{cids}
use Rattle.iscsi_ffi_rules.specs.rules.Sides.{opened}
use Rattle.iscsi_ffi_steps.specs.State.{opened as opened_state}
use Rattle.iscsi_ffi_steps.specs.Steps.{begun}
use Rattle.iscsi_ffi_law.specs.Parts.{IsAbout, IsAnswered, IsConn, IsFunctionAt, noted_in}
use Rattle.iscsi_ffi_law.specs.Stands.{Stands}
use Rattle.iscsi_ffi_law.specs.Uses.{count_held, count_functions, count_replies, count_noted, count_unwritten, is_place, uses_of}
use Rattle.iscsi_ffi_law.proofs.general.Lists.{conn_new, lists_new, none_placed}
use Rattle.iscsi_ffi_law.proofs.own_pdus.NotePlaces.{notes_whole}

none_told : {A : Type 0} (xs : List A) → replicate (length xs) false ≡ map (λ (x : A). false) xs
none_told [] = refl
none_told (x ∷ xs) = ap (λ (bs : List Bool). false ∷ bs) (none_told xs)

noted_none : (xs : List (Option ℕ)) → noted_in xs [] ≡ []
noted_none [] = refl
noted_none (x ∷ xs) = refl

-- there is a place for a number
some_size : (sizes : List ℕ) (window : ℕ) → EachOf (λ (n : ℕ). 0 < n) sizes → 0 < unwrap_or (find (λ n. nat_le window n) sizes) 1024
some_size [] window each = omega arith
some_size (n ∷ sizes) window each = by_test (some_size sizes window each.1) (nat_le window n)
  where
    by_test : 0 < unwrap_or (find (λ m. nat_le window m) sizes) 1024 → (v : Bool) → 0 < unwrap_or (cond v (Some n) (find (λ m. nat_le window m) sizes)) 1024
    by_test rest true = each.0
    by_test rest false = rest

some_slots : (window : ℕ) → 0 < length (numbers.opened window).places
some_slots window =
    let some = some_size numbers.SIZES window (omega arith, (omega arith, (omega arith, (omega arith, (omega arith, (omega arith, (omega arith, (omega arith, (omega arith, (omega arith, (omega arith, tt))))))))))) in
    let long = length-replicate {A = Option ℕ} (numbers.size_for window) None in
    omega (arith, some, long)

module _ (i : Interface) where
  unused : (place : ℕ) → 0 ≡ uses_of place (opened_state i) + 0
  unused place =
      let held : count_held place (opened_state i) ≡ 0 = none_placed place (size_for i.outbox.session.window) in
      let functions : count_functions place (opened_state i) ≡ 0 = lists_new (λ (f : WaitingFunction). f.request == place) (length (cids i)) in
      let replies : count_replies place (opened_state i) ≡ 0 = lists_new (λ (x : WaitingReply). x.request == place) (length (cids i)) in
      let noted : count_noted place (opened_state i) ≡ 0 = lists_new (is_place place) (length (cids i)) in
      let unwritten : count_unwritten place (opened_state i) ≡ 0 = lists_new (is_place place) (length (cids i)) in
      omega (arith, held, functions, replies, noted, unwritten)

  none_many : (n : ℕ) → EachOf (λ (xs : List (Option ℕ)). length xs ≤ i.unwritten) (replicate n [])
  none_many zero = tt
  none_many (suc n) = (omega arith, none_many n)

  conn_opened : (p conn : ℕ) → IsConn [] [] [] (opened_state i) (opened i) p (new_link conn)
  conn_opened p conn =
      let replies : of_conn p (opened_state i).replies.waiting ≡ [] = conn_new (length (cids i)) p in
      let noted : of_conn p (opened_state i).noted.handed ≡ [] = conn_new (length (cids i)) p in
      let unwritten : of_conn p (opened_state i).unwritten.handed ≡ [] = conn_new (length (cids i)) p in
      record {
        replies = subst (λ xs. EachOf (λ (x : WaitingReply). IsAnswered [] [] x.log_place x.request) xs) (sym replies) tt;
        queued = record {
          sent = λ place. ap (count_by (has_log_place place)) replies;
          noting = ap length noted;
          known = tt;
          covered = tt;
        };
        written = subst (λ xs. PairsOf (IsAbout [] [] (opened i) conn) xs []) (sym unwritten) tt;
        noted = notes_whole [] conn (of_conn p (opened_state i).noted.handed) (noted_in (of_conn p (opened_state i).unwritten.handed) []) (sym noted) (sym (noted_none (of_conn p (opened_state i).unwritten.handed)));
      }

  pub stands_begun : Stands i (begun i) (opened i)
  stands_begun = record {
    names = [];
    notes = [];
    event = refl;
    trace = refl;
    outbox = stands_opened i.outbox;
    sizes = record {
      room = refl;
      functions = length-replicate (length (cids i)) [];
      replies = length-replicate (length (cids i)) [];
      noted = length-replicate (length (cids i)) [];
      unwritten = length-replicate (length (cids i)) [];
      noted_room = refl;
      unwritten_room = refl;
      replies_room = refl;
      slots = some_slots i.outbox.session.window;
      few = none_many (length (cids i));
    };
    flags = record { awake = none_told (cids i); over = none_told (cids i) };
    requests = record {
      asked = refl;
      noted = record { waiting_are = refl; handed_are = refl };
      apart = record { places = λ place. omega arith; events = λ event. omega arith };
      kept = λ place cookie. refl;
      counted = record { once = λ place. omega arith; used = tt; unused = λ place free. refl };
      uses = unused;
      named = tt;
      noted_apart = tt;
      tickets = refl;
      commands = tt;
      live_named = tt;
      one_use = tt;
      numbered = λ ticket. omega arith;
      answers = refl;
      once = λ log_place. let e = lists_new (has_log_place log_place) (length (cids i)) in omega (arith, e);
      last = tt;
      conns = λ p within.
          let short : p < length i.outbox.session.conns = omega (arith, within, length-map i.outbox.session.conns (λ (c : ℕ × ℕ). new_link c.0)) in
          subst (IsConn [] [] [] (opened_state i) (opened i) p) (sym (get_or-map (λ (c : ℕ × ℕ). new_link c.0) i.outbox.session.conns p (0, 0) (new_link 0) short)) (conn_opened p (get_or i.outbox.session.conns p (0, 0)).0);
      undue = tt;
    };
    counts = record { units = refl; last = omega arith; tracked = omega arith };
    slots = record {
      placed = tt;
      size_is = length-replicate (size_for i.outbox.session.window) None;
      there = λ n a is. absurd (let none : ⊥ = cc in none);
      once = λ place. omega (arith, none_placed place (size_for i.outbox.session.window));
    };
    functions = record {
      each = λ p within. subst (λ xs. PairsOf (IsFunctionAt []) xs []) (sym (conn_new {X = WaitingFunction} (length (cids i)) p)) tt;
      once = λ place. let none = lists_new (λ (f : WaitingFunction). f.request == place) (length (cids i)) in omega (arith, none);
      room = refl;
    };
    withheld = refl;
    calm = refl;
  }
