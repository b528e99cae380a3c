-- Places and trails, as a PDU of a command is handed out, nothing of it is under way any more, or it comes to another phase.
use Rattle.std.proofs.Common.{◌≡◌, ℕ, ◌+◌, ◌<◌, ◌≤◌, ◌⊎◌, inl, inr, ⊎_elim, cond, Bool, true, false, [], ◌∷◌, ◌++◌, length, map, get_or, Option, Some, None, refl, ap, sym, subst, ◌∙◌, arith, eq-eqb}
use Rattle.std.specs.List.{find}
use Rattle.std.proofs.lemmas.Bool.{cases_eq, eqb-false, eqb-true, false≢true, true≢false}
use Rattle.std.proofs.lemmas.List.{get_or-set_other, get_or-set_same, length-map, length-set}
use Rattle.iscsi_slots.specs.Slots.{times}
use Rattle.iscsi_slots.proofs.SlotLemmas.{times_append}
use Rattle.iscsi_lists.specs.Lists.{times_in, with_last, without}
use Rattle.iscsi_lists.proofs.PlaceLemmas.{nth_map, only_there, times_any}
use Rattle.iscsi_lists.proofs.WithoutLemmas.{times_in_other, times_in_with, times_in_without, times_other, times_same, times_without, times_without_other}
use Rattle.iscsi_arrivals.specs.declared.stamp.Stamp.{Stamp}
use Rattle.iscsi_tracked.specs.declared.command.Command.{Command}
use Rattle.iscsi_tracked.specs.declared.command.Phase.{Phase}
use Rattle.iscsi_tracked.specs.Tracked.{Tracked, arrived, conn_at, find_place, handed_out, has_place, in_phase, is_at, is_out, to_phase, trail_at, with_command, with_out}
use Rattle.iscsi_outbox_law.specs.private.Pairs.{InOrder}
use Rattle.iscsi_outbox_law.specs.private.Commands.{ArePlaced, AreTrails, IsTrailed, out_place}
use Rattle.iscsi_outbox_law.proofs.general.PairLemmas.{each-at, each-map, each-set, each-weaken}
use Rattle.iscsi_outbox_law.proofs.general.Members.{In, any_from, any_found, each-in, order-weaken}
use Rattle.iscsi_outbox_law.proofs.commands.LeftOut.{found_there}
use Rattle.iscsi_outbox_law.proofs.commands.TrackedLemmas.{KeepsPlace, at_place, each_map_in, each_times, found_changed, has_changed, onward_without, order_kept, order_push, other_out, out_of, placed_changed}

pub keeps_out : (x : Option Stamp) → KeepsPlace (with_out x)
keeps_out x = record { ticket = λ c. refl; place = λ c. refl; conn = λ c. refl }

pub keeps_phase : (phase : Phase) → KeepsPlace (to_phase phase)
keeps_phase phase = record { ticket = λ c. refl; place = λ c. refl; conn = λ c. refl }

-- the command in a place
pub has_found : (n : ℕ) (v : Tracked) → has_place n v ≡ true → (c : Command) × In c v.commands × (c.place ≡ n)
has_found n v some = let k : (c : Command) × In c v.commands × (is_at n c ≡ true) = any_found (is_at n) v.commands some in (k.0, k.1, eqb-true k.0.place n k.2)

-- who stands on a trail
trailed_out : (v : Tracked) (c : Command) → IsTrailed v c → 1 ≤ times_in c.place v.trails → is_out c ≡ true
trailed_out v c t some = by_out (is_out c) refl
  where
    by_out : (w : Bool) → is_out c ≡ w → is_out c ≡ true
    by_out true is = is
    by_out false is = absurd (let none = t.idle is in omega (arith, some, none))

pub record OnTrail (v : Tracked) (conn q : ℕ) : Type 0 where
  pub command : Command
  pub kept : In command v.commands
  pub place : command.place ≡ q
  pub conn_is : command.conn ≡ conn
  pub out : is_out command ≡ true

pub on_trail : (v : Tracked) (conn q : ℕ) → AreTrails v → 1 ≤ times q (trail_at v conn) → OnTrail v conn q
on_trail v conn q h on =
    let some : 1 ≤ times_in q v.trails = omega (arith, on, times_any q conn v.trails) in
    let k = has_found q v (h.of_one q some) in
    let t : IsTrailed v k.0 = each-in (IsTrailed v) v.commands k.0 k.1 h.trailed in
    let out : is_out k.0 ≡ true = trailed_out v k.0 t (subst (λ n. 1 ≤ times_in n v.trails) (sym k.2) some) in
    let mine : 1 ≤ times q (trail_at v k.0.conn) = subst (λ n. 1 ≤ times n (trail_at v k.0.conn)) k.2 (let one = t.out out in omega (arith, one)) in
    let here : k.0.conn ≡ conn =
    ⊎_elim (λ same. same)
    (λ apart. absurd (let none = only_there q k.0.conn conn v.trails mine (subst (λ n. times_in n v.trails ≤ 1) k.2 t.once) (λ e. apart (sym e)) in omega (arith, on, none)))
    (cases_eq k.0.conn conn) in
    record { command = k.0; kept = k.1; place = k.2; conn_is = here; out = out }

-- ---- a phase

phase_last : (phase : Phase) (place p : ℕ) (v : Tracked) → out_place (in_phase phase place v) p ≡ out_place v p
phase_last phase place p v = ap out_of (found_changed (to_phase phase) (keeps_phase phase) place p v.commands) ∙ by_found (find (is_at p) v.commands)
  where
    by_found : (x : Option Command) → out_of (elim x as (λ (y : Option Command). Option Command) [ Some c ↦ Some (at_place (to_phase phase) place c) | None ↦ None ]) ≡ out_of x
    by_found None = refl
    by_found (Some c) = elim (is_at place c) as (λ v. out_of (Some (cond v (to_phase phase c) c)) ≡ out_of (Some c)) [ true ↦ refl | false ↦ refl ]

pub trails_phase : (phase : Phase) (place : ℕ) (v : Tracked) → AreTrails v → AreTrails (in_phase phase place v)
trails_phase phase place v h = record {
  trailed = each-map (IsTrailed v) (IsTrailed (in_phase phase place v)) (at_place (to_phase phase) place) v.commands turned h.trailed;
  of_one = λ n some. has_changed (to_phase phase) (keeps_phase phase) place n v.commands ∙ h.of_one n some;
  onward = each-weaken (InOrder (λ (p q : ℕ). out_place v p < out_place v q)) (InOrder (λ (p q : ℕ). out_place (in_phase phase place v) p < out_place (in_phase phase place v) q)) v.trails
      (λ ps k. order-weaken (λ (p q : ℕ). out_place v p < out_place v q) (λ (p q : ℕ). out_place (in_phase phase place v) p < out_place (in_phase phase place v) q) ps
      (λ p q lt. omega (arith, lt, phase_last phase place p v, phase_last phase place q v)) k) h.onward;
}
  where
    turned : (c : Command) → IsTrailed v c → IsTrailed (in_phase phase place v) (at_place (to_phase phase) place c)
    turned c t = elim (is_at place c) as (λ w. IsTrailed (in_phase phase place v) (cond w (to_phase phase c) c)) [
      | true ↦ record { conn = t.conn; out = t.out; idle = t.idle; once = t.once }
      | false ↦ record { conn = t.conn; out = t.out; idle = t.idle; once = t.once }
    ]

pub placed_phase : (phase : Phase) (place : ℕ) (v : Tracked) → ArePlaced v → ArePlaced (in_phase phase place v)
placed_phase phase place v h = placed_changed (to_phase phase) (keeps_phase phase) place v v.trails h

-- ---- nothing of it is under way any more

pub placed_arrived : (place : ℕ) (v : Tracked) → ArePlaced v → ArePlaced (arrived place v)
placed_arrived place v h = placed_changed (with_out None) (keeps_out None) place v (map (without place) v.trails) h

-- as it is in trails without a place
left_trail : (place : ℕ) (v : Tracked) (conn p : ℕ) → (p ≡ place → ⊥) → times p (get_or (map (without place) v.trails) conn []) ≡ times p (trail_at v conn)
left_trail place v conn p apart = ap (times p) (nth_map place conn v.trails) ∙ times_without_other place p (trail_at v conn) apart

pub trails_arrived : (place : ℕ) (v : Tracked) → AreTrails v → AreTrails (arrived place v)
trails_arrived place v h = record {
  trailed = each-map (IsTrailed v) (IsTrailed (arrived place v)) (at_place (with_out None) place) v.commands turned h.trailed;
  of_one = λ n some. has_changed (with_out None) (keeps_out None) place n v.commands ∙ h.of_one n (by_place n some (cases_eq n place));
  onward = onward_without (out_place v) (out_place (arrived place v)) place (λ p apart. other_out (with_out None) (keeps_out None) place v.commands p apart) v.trails h.onward;
}
  where
    by_place : (n : ℕ) → 1 ≤ times_in n (map (without place) v.trails) → (n ≡ place) ⊎ (n ≡ place → ⊥) → 1 ≤ times_in n v.trails
    by_place n some (inl same) = absurd (let none = times_in_without place v.trails in let e = ap (λ k. times_in k (map (without place) v.trails)) same in omega (arith, some, none, e))
    by_place n some (inr apart) = let e = times_in_other place n v.trails apart in omega (arith, some, e)

    turned : (c : Command) → IsTrailed v c → IsTrailed (arrived place v) (at_place (with_out None) place c)
    turned c t = elim (is_at place c) as (λ w. is_at place c ≡ w → IsTrailed (arrived place v) (cond w (with_out None c) c)) [
      | true ↦ λ here.
          let same : c.place ≡ place = eqb-true c.place place here in
          let none : times_in c.place (map (without place) v.trails) ≡ 0 = ap (λ k. times_in k (map (without place) v.trails)) same ∙ times_in_without place v.trails in
          record {
            conn = omega (arith, t.conn, length-map v.trails (without place));
            out = λ is. absurd (false≢true is);
            idle = λ is. none;
            once = omega (arith, none);
          }
      | false ↦ λ there.
          let apart : c.place ≡ place → ⊥ = eqb-false c.place place there in
          let same : times_in c.place (map (without place) v.trails) ≡ times_in c.place v.trails = times_in_other place c.place v.trails apart in
          record {
            conn = omega (arith, t.conn, length-map v.trails (without place));
            out = λ is. left_trail place v c.conn c.place apart ∙ t.out is;
            idle = λ is. same ∙ t.idle is;
            once = omega (arith, same, t.once);
          }
    ] refl

-- ---- a PDU of it is handed out

pub placed_handed : (place : ℕ) (stamp : Stamp) (v : Tracked) → ArePlaced v → ArePlaced (handed_out place stamp v)
placed_handed place stamp v h = placed_changed (with_out (Some stamp)) (keeps_out (Some stamp)) place v (with_last (conn_at place v) place (map (without place) v.trails)) h

module _ (stamp : Stamp) (v : Tracked) (h : AreTrails v) (placed : ArePlaced v) (c : Command) (kept : In c v.commands)
    (last : (q : ℕ) → 1 ≤ times q (trail_at v c.conn) → out_place v q < stamp.place) where
  found : find_place c.place v ≡ Some c
  found = found_there v c placed kept

  pub conn_is : conn_at c.place v ≡ c.conn
  conn_is = ap (λ (x : Option Command). elim x as (λ (y : Option Command). ℕ) [ Some d ↦ d.conn | None ↦ 0 ]) found

  within : c.conn < length (map (without c.place) v.trails)
  within = let t : IsTrailed v c = each-in (IsTrailed v) v.commands c kept h.trailed in omega (arith, t.conn, length-map v.trails (without c.place))

  abbrev after : Tracked
  after = record v { commands = with_command (with_out (Some stamp)) c.place v.commands; trails = with_last c.conn c.place (map (without c.place) v.trails) }

  times_after : (n : ℕ) → times_in n (with_last c.conn c.place (map (without c.place) v.trails)) ≡ times_in n (map (without c.place) v.trails) + times n (c.place ∷ [])
  times_after n = times_in_with c.conn c.place n (map (without c.place) v.trails) within

  alone : times c.place (c.place ∷ []) ≡ 1
  alone = omega (arith, times_same c.place c.place [] refl)

  other_alone : (n : ℕ) → (n ≡ c.place → ⊥) → times n (c.place ∷ []) ≡ 0
  other_alone n apart = times_other n c.place [] (λ same. apart (sym same))

  trail_there : get_or (with_last c.conn c.place (map (without c.place) v.trails)) c.conn [] ≡ without c.place (trail_at v c.conn) ++ c.place ∷ []
  trail_there =
      get_or-set_same (map (without c.place) v.trails) c.conn (get_or (map (without c.place) v.trails) c.conn [] ++ c.place ∷ []) [] within
      ∙ ap (λ ps. ps ++ c.place ∷ []) (nth_map c.place c.conn v.trails)

  trail_other : (k : ℕ) → (k ≡ c.conn → ⊥) → get_or (with_last c.conn c.place (map (without c.place) v.trails)) k [] ≡ without c.place (trail_at v k)
  trail_other k apart = get_or-set_other (map (without c.place) v.trails) c.conn k (get_or (map (without c.place) v.trails) c.conn [] ++ c.place ∷ []) [] apart ∙ nth_map c.place k v.trails

  other_trail : (k n : ℕ) → (n ≡ c.place → ⊥) → times n (get_or (with_last c.conn c.place (map (without c.place) v.trails)) k []) ≡ times n (trail_at v k)
  other_trail k n apart =
      ⊎_elim
      (λ same.
      ap (λ j. times n (get_or (with_last c.conn c.place (map (without c.place) v.trails)) j [])) same ∙ ap (times n) trail_there
      ∙ (let e = times_append n (without c.place (trail_at v c.conn)) (c.place ∷ []) in
      let f = times_without_other c.place n (trail_at v c.conn) apart in
      let g = other_alone n apart in
      let z : times n (without c.place (trail_at v c.conn) ++ c.place ∷ []) ≡ times n (trail_at v c.conn) = omega (arith, e, f, g) in z)
      ∙ ap (λ j. times n (trail_at v j)) (sym same))
      (λ other. ap (times n) (trail_other k other) ∙ times_without_other c.place n (trail_at v k) apart)
      (cases_eq k c.conn)

  out_here : out_of (find (is_at c.place) (with_command (with_out (Some stamp)) c.place v.commands)) ≡ stamp.place
  out_here =
      ap out_of (found_changed (with_out (Some stamp)) (keeps_out (Some stamp)) c.place c.place v.commands)
      ∙ ap (λ (x : Option Command). out_of (elim x as (λ (y : Option Command). Option Command) [ Some d ↦ Some (at_place (with_out (Some stamp)) c.place d) | None ↦ None ])) found
      ∙ ap (λ (w : Bool). out_of (Some (cond w (with_out (Some stamp) c) c))) (eq-eqb c.place c.place refl)

  same_command : (d : Command) → In d v.commands → d.place ≡ c.place → d ≡ c
  same_command d at same = let e : find_place c.place v ≡ Some d = ap (λ n. find_place n v) (sym same) ∙ found_there v d placed at in let f : find_place c.place v ≡ Some c = found in cc

  turned : (d : Command) → In d v.commands → IsTrailed v d → IsTrailed after (at_place (with_out (Some stamp)) c.place d)
  turned d at t = elim (is_at c.place d) as (λ w. is_at c.place d ≡ w → IsTrailed after (cond w (with_out (Some stamp) d) d)) [
    | true ↦ λ here.
        let same : d ≡ c = same_command d at (eqb-true d.place c.place here) in
        let mine : times c.place (get_or (with_last c.conn c.place (map (without c.place) v.trails)) c.conn []) ≡ 1 =
        ap (times c.place) trail_there
        ∙ (let e = times_append c.place (without c.place (trail_at v c.conn)) (c.place ∷ []) in
        let f = times_without c.place (trail_at v c.conn) in
        let g = alone in
        let z : times c.place (without c.place (trail_at v c.conn) ++ c.place ∷ []) ≡ 1 = omega (arith, e, f, g) in z) in
        let few : times_in c.place (with_last c.conn c.place (map (without c.place) v.trails)) ≤ 1 =
        (let e = times_after c.place in let f = times_in_without c.place v.trails in let g = alone in omega (arith, e, f, g)) in
        record {
          conn = omega (arith, t.conn, length-map v.trails (without c.place), length-set (map (without c.place) v.trails) c.conn (get_or (map (without c.place) v.trails) c.conn [] ++ c.place ∷ []));
          out = λ is. subst (λ (e : Command). times e.place (get_or (with_last c.conn c.place (map (without c.place) v.trails)) e.conn []) ≡ 1) (sym same) mine;
          idle = λ is. absurd (true≢false is);
          once = subst (λ (e : Command). times_in e.place (with_last c.conn c.place (map (without c.place) v.trails)) ≤ 1) (sym same) few;
        }
    | false ↦ λ there.
        let apart : d.place ≡ c.place → ⊥ = eqb-false d.place c.place there in
        let same : times_in d.place (with_last c.conn c.place (map (without c.place) v.trails)) ≡ times_in d.place v.trails =
        (let e = times_after d.place in let f = times_in_other c.place d.place v.trails apart in let g = other_alone d.place apart in omega (arith, e, f, g)) in
        record {
          conn = omega (arith, t.conn, length-map v.trails (without c.place), length-set (map (without c.place) v.trails) c.conn (get_or (map (without c.place) v.trails) c.conn [] ++ c.place ∷ []));
          out = λ is. other_trail d.conn d.place apart ∙ t.out is;
          idle = λ is. same ∙ t.idle is;
          once = omega (arith, same, t.once);
        }
  ] refl

  of_one_after : (n : ℕ) → 1 ≤ times_in n (with_last c.conn c.place (map (without c.place) v.trails)) → (n ≡ c.place) ⊎ (n ≡ c.place → ⊥) → has_place n v ≡ true
  of_one_after n some (inl same) = any_from (is_at n) v.commands c kept (eq-eqb c.place n (sym same))
  of_one_after n some (inr apart) =
      h.of_one n (let e = times_after n in let f = times_in_other c.place n v.trails apart in let g = other_alone n apart in omega (arith, some, e, f, g))

  same_out : (p : ℕ) → (p ≡ c.place → ⊥) → out_place after p ≡ out_place v p
  same_out p apart = other_out (with_out (Some stamp)) (keeps_out (Some stamp)) c.place v.commands p apart

  own_trail : InOrder (λ (p q : ℕ). out_place after p < out_place after q) (get_or (map (without c.place) v.trails) c.conn [] ++ c.place ∷ [])
  own_trail =
      subst (λ ps. InOrder (λ (p q : ℕ). out_place after p < out_place after q) (ps ++ c.place ∷ [])) (sym (nth_map c.place c.conn v.trails))
      (order_push (λ (p q : ℕ). out_place after p < out_place after q) (without c.place (trail_at v c.conn)) c.place
      (order_kept (out_place v) (out_place after) c.place same_out (trail_at v c.conn)
      (each-at (InOrder (λ (p q : ℕ). out_place v p < out_place v q)) v.trails c.conn [] (let t : IsTrailed v c = each-in (IsTrailed v) v.commands c kept h.trailed in t.conn) h.onward))
      (each_times (λ q. out_place after q < out_place after c.place) (without c.place (trail_at v c.conn)) earlier))
    where
      earlier : (q : ℕ) → 1 ≤ times q (without c.place (trail_at v c.conn)) → out_place after q < out_place after c.place
      earlier q some =
          ⊎_elim
          (λ same. absurd (let none = times_without c.place (trail_at v c.conn) in let e = ap (λ k. times k (without c.place (trail_at v c.conn))) same in omega (arith, some, none, e)))
          (λ apart.
          let on : 1 ≤ times q (trail_at v c.conn) = (let e = times_without_other c.place q (trail_at v c.conn) apart in omega (arith, some, e)) in
          let lt = last q on in
          let e : out_place after q ≡ out_place v q = same_out q apart in
          let f : out_place after c.place ≡ stamp.place = out_here in omega (arith, lt, e, f))
          (cases_eq q c.place)

  pub trails_handed : AreTrails (handed_out c.place stamp v)
  trails_handed =
      subst (λ k. AreTrails (record v { commands = with_command (with_out (Some stamp)) c.place v.commands; trails = with_last k c.place (map (without c.place) v.trails) })) (sym conn_is)
      (record {
        trailed = each_map_in (IsTrailed v) (IsTrailed after) (at_place (with_out (Some stamp)) c.place) v.commands turned h.trailed;
        of_one = λ n some. has_changed (with_out (Some stamp)) (keeps_out (Some stamp)) c.place n v.commands ∙ of_one_after n some (cases_eq n c.place);
        onward = each-set (InOrder (λ (p q : ℕ). out_place after p < out_place after q)) (map (without c.place) v.trails) c.conn (get_or (map (without c.place) v.trails) c.conn [] ++ c.place ∷ []) own_trail
            (onward_without (out_place v) (out_place after) c.place same_out v.trails h.onward);
      })
