-- What one deed more shows of what was written, and of what arrived: as more is called, no less has arrived.
use Rattle.std.proofs.Common.{◌≡◌, ℕ, ◌⊎◌, inl, inr, ⊎_elim, ◌==◌, ◌||◌, ◌&&◌, ◌+◌, ◌≤◌, cond, Bool, true, false, List, [], ◌∷◌, ◌++◌, length, map, filter, nat_lt, Option, Some, None, refl, ap, sym, subst, ◌∙◌, arith, eq-eqb, length-append}
use Rattle.std.specs.List.{list_any, cons_option}
use Rattle.std.proofs.lemmas.Bool.{false≢true, eqb-true}
use Rattle.std.proofs.lemmas.List.{append_assoc}
use Rattle.std.proofs.lemmas.List.Folds.{list_any-append}
use Rattle.iscsi_wire.specs.Serial.{wire}
use Rattle.iscsi_rules.proofs.general.BoolLemmas.{and_parts, and_both, or_first, or_second}
use Rattle.iscsi_outbox_rules.specs.rules.Boxes.{Pdu, Replies, Owns, Pings, Notices, Handed}
use Rattle.iscsi_outbox_rules.specs.promises.Deeds.{Deed, handed_in_deed, is_handed_on, handed_on}
use Rattle.iscsi_outbox_rules.specs.promises.Arrived.{acknowledges, answers, is_write_of, writes_from, writes_on, next_behind, is_acknowledged, shows_arrival, shows_later, has_arrived}
use Rattle.iscsi_outbox_rules.proofs.general.DeedLemmas.{handed_on-append, some_on, on_one}

-- ---- lists that are cut

none_cut : {A : Type 0} (xs ys : List A) (x : A) → xs ++ x ∷ ys ≡ [] → ⊥
none_cut [] ys x h = absurd cc
none_cut (y ∷ xs) ys x h = absurd cc

-- one more at the end: the cut is there, or before
pub split_last : {A : Type 0} (us vs xs : List A) (v x : A) → us ++ v ∷ vs ≡ xs ++ x ∷ [] → ((us ≡ xs) × (v ≡ x) × (vs ≡ [])) ⊎ ((rest : List A) × (vs ≡ rest ++ x ∷ []) × (us ++ v ∷ rest ≡ xs))
split_last [] vs [] v x h = inl (refl, cc, cc)
split_last [] vs (y ∷ xs) v x h = let same : v ≡ y = cc in let rest : vs ≡ xs ++ x ∷ [] = cc in inr (xs, rest, ap (λ z. z ∷ xs) same)
split_last (u ∷ us) vs [] v x h = let none : us ++ v ∷ vs ≡ [] = cc in absurd (none_cut us vs v none)
split_last (u ∷ us) vs (y ∷ xs) v x h =
    let same : u ≡ y = cc in
    let rest : us ++ v ∷ vs ≡ xs ++ x ∷ [] = cc in
    ⊎_elim (λ k. inl (ap (λ z. z ∷ us) same ∙ ap (λ zs. y ∷ zs) k.0, k.1, k.2)) (λ k. inr (k.0, k.1, ap (λ z. z ∷ (us ++ v ∷ k.0)) same ∙ ap (λ zs. y ∷ zs) k.2)) (split_last us vs xs v x rest)

-- of two cuts the second isn't the earlier one: it is the same, or it is behind
pub same_cut : {A : Type 0} (us vs xs ys : List A) (v x : A) → us ++ v ∷ vs ≡ xs ++ x ∷ ys → length us ≤ length xs → (v ≡ x) ⊎ ((zs : List A) × (vs ≡ zs ++ x ∷ ys))
same_cut [] vs [] ys v x h low = inl cc
same_cut [] vs (z ∷ xs) ys v x h low = inr (xs, cc)
same_cut (u ∷ us) vs [] ys v x h low = absurd (omega (arith, low))
same_cut (u ∷ us) vs (z ∷ xs) ys v x h low = let rest : us ++ v ∷ vs ≡ xs ++ x ∷ ys = cc in same_cut us vs xs ys v x rest (omega (arith, low))

-- ---- what was handed out on a connection

-- the deed hands nothing out there
abbrev pub Apart : ℕ → Deed → Type 0
Apart c d = (h : Handed) → handed_in_deed d ≡ Some (c, h) → ⊥

pub apart_on : (c : ℕ) (d : Deed) → Apart c d → handed_on c (d ∷ []) ≡ []
apart_on c d apart = ⊎_elim (λ none. none) (λ some. absurd (apart some.0 some.1)) (on_one c d)

pub on_more : (c : ℕ) (d : Deed) (ds : List Deed) → handed_on c (d ∷ ds) ≡ handed_on c (d ∷ []) ++ handed_on c ds
on_more c d ds = handed_on-append c (d ∷ []) ds

-- where one of them was handed out
pub record OnSplit (c : ℕ) (ds : List Deed) (xs : List Handed) (g : Handed) : Type 0 where
  pub before : List Deed
  pub deed : Deed
  pub after : List Deed
  pub whole : before ++ deed ∷ after ≡ ds
  pub shown : handed_in_deed deed ≡ Some (c, g)
  pub first : handed_on c before ≡ xs

split_more : (c : ℕ) (d : Deed) (ds : List Deed) (xs ys : List Handed) (g : Handed) → ((zs : List Handed) → handed_on c ds ≡ zs ++ g ∷ ys → OnSplit c ds zs g) → handed_on c (d ∷ ds) ≡ xs ++ g ∷ ys → OnSplit c (d ∷ ds) xs g
split_more c d ds xs ys g later h = ⊎_elim none some (on_one c d)
  where
    none : handed_on c (d ∷ []) ≡ [] → OnSplit c (d ∷ ds) xs g
    none is =
        let k : OnSplit c ds xs g = later xs (sym (on_more c d ds ∙ ap (λ hs. hs ++ handed_on c ds) is) ∙ h) in
        record {
          before = d ∷ k.before;
          deed = k.deed;
          after = k.after;
          whole = ap (λ es. d ∷ es) k.whole;
          shown = k.shown;
          first = on_more c d k.before ∙ ap (λ hs. hs ++ handed_on c k.before) is ∙ k.first;
        }

    by_first : (x : Handed) → handed_in_deed d ≡ Some (c, x) → (zs : List Handed) → x ∷ handed_on c ds ≡ zs ++ g ∷ ys → OnSplit c (d ∷ ds) zs g
    by_first x shown [] is = let same : x ≡ g = cc in record { before = []; deed = d; after = ds; whole = refl; shown = shown ∙ ap (λ y. Some (c, y)) same; first = refl }
    by_first x shown (z ∷ zs) is =
        let same : x ≡ z = cc in
        let rest : handed_on c ds ≡ zs ++ g ∷ ys = cc in
        let k : OnSplit c ds zs g = later zs rest in
        record {
          before = d ∷ k.before;
          deed = k.deed;
          after = k.after;
          whole = ap (λ es. d ∷ es) k.whole;
          shown = k.shown;
          first = on_more c d k.before ∙ ap (λ hs. hs ++ handed_on c k.before) (some_on c d x shown) ∙ ap (λ y. y ∷ handed_on c k.before) same ∙ ap (λ hs. z ∷ hs) k.first;
        }

    some : (x : Handed) × (handed_in_deed d ≡ Some (c, x)) → OnSplit c (d ∷ ds) xs g
    some x = by_first x.0 x.1 xs (sym (on_more c d ds ∙ ap (λ hs. hs ++ handed_on c ds) (some_on c d x.0 x.1)) ∙ h)

pub split_on : (c : ℕ) (ds : List Deed) (xs ys : List Handed) (g : Handed) → handed_on c ds ≡ xs ++ g ∷ ys → OnSplit c ds xs g
split_on c [] xs ys g h = absurd (none_cut xs ys g (sym h))
split_on c (d ∷ ds) xs ys g h = split_more c d ds xs ys g (λ zs is. split_on c ds zs ys g is) h

-- ---- the StatSN that the next PDU takes

-- after these deeds
abbrev pub next_after : ℕ → ℕ → List Deed → ℕ
next_after c next [] = next
next_after c next (d ∷ ds) = next_after c (next_behind c next d) ds

pub next_after-more : (c next : ℕ) (ds : List Deed) (d : Deed) → next_after c next (ds ++ d ∷ []) ≡ next_behind c (next_after c next ds) d
next_after-more c next [] d = refl
next_after-more c next (e ∷ ds) d = next_after-more c (next_behind c next e) ds d

pub next_apart : (c next : ℕ) (d : Deed) → Apart c d → next_behind c next d ≡ next
next_apart c next d apart = by_shown (handed_in_deed d) refl
  where
    by_shown : (x : Option (ℕ × Handed)) → handed_in_deed d ≡ x → elim x [ Some g ↦ cond (g.0 == c && g.1.out.takes) (wire (g.1.stat_sn + 1)) next | None ↦ next ] ≡ next
    by_shown None is = refl
    by_shown (Some g) is =
        elim (g.0 == c) as (λ v. (g.0 == c) ≡ v → cond (v && g.1.out.takes) (wire (g.1.stat_sn + 1)) next ≡ next) [
          | true ↦ λ here. absurd (apart g.1 (is ∙ ap (λ e. Some (e, g.1)) (eqb-true g.0 c here)))
          | false ↦ λ there. refl
        ] refl

pub next_on : (c next : ℕ) (d : Deed) (g : Handed) → handed_in_deed d ≡ Some (c, g) → next_behind c next d ≡ cond g.out.takes (wire (g.stat_sn + 1)) next
next_on c next d g shown =
    ap (λ (x : Option (ℕ × Handed)). elim x [ Some k ↦ cond (k.0 == c && k.1.out.takes) (wire (k.1.stat_sn + 1)) next | None ↦ next ]) shown
    ∙ ap (λ v. cond (v && g.out.takes) (wire (g.stat_sn + 1)) next) (eq-eqb c c refl)

-- ---- what arrived stays so

pub or_stays : (x y v w : Bool) → (x ≡ true → v ≡ true) → (y ≡ true → w ≡ true) → (x || y) ≡ true → (v || w) ≡ true
or_stays true y v w f g h = or_first v w (f refl)
or_stays false y v w f g h = or_second v w (g h)

pub acknowledged-now : (c stat_sn next : ℕ) (ds : List Deed) (d : Deed) → acknowledges c stat_sn (next_after c next ds) d.0 ≡ true → is_acknowledged c stat_sn next (ds ++ d ∷ []) ≡ true
acknowledged-now c stat_sn next [] d h = or_first (acknowledges c stat_sn next d.0) (is_acknowledged c stat_sn (next_behind c next d) []) h
acknowledged-now c stat_sn next (e ∷ ds) d h =
    or_second (acknowledges c stat_sn next e.0) (is_acknowledged c stat_sn (next_behind c next e) (ds ++ d ∷ [])) (acknowledged-now c stat_sn (next_behind c next e) ds d h)

acknowledged-stays : (c stat_sn next : ℕ) (ds es : List Deed) → is_acknowledged c stat_sn next ds ≡ true → is_acknowledged c stat_sn next (ds ++ es) ≡ true
acknowledged-stays c stat_sn next [] es h = absurd (false≢true h)
acknowledged-stays c stat_sn next (d ∷ ds) es h =
    or_stays (acknowledges c stat_sn next d.0) (is_acknowledged c stat_sn (next_behind c next d) ds) (acknowledges c stat_sn next d.0) (is_acknowledged c stat_sn (next_behind c next d) (ds ++ es))
    (λ now. now) (acknowledged-stays c stat_sn (next_behind c next d) ds es) h

-- the ping is answered
abbrev pub is_answered : ℕ → Pdu → List Deed → Bool
is_answered c p ds = elim p [ Pings tag ↦ list_any (λ (d : Deed). answers c tag d.0) ds | Replies reply ↦ false | Owns q ↦ false | Notices ↦ false ]

answered-stays : (c : ℕ) (p : Pdu) (ds es : List Deed) → is_answered c p ds ≡ true → is_answered c p (ds ++ es) ≡ true
answered-stays c (Pings tag) ds es h =
    list_any-append (λ (d : Deed). answers c tag d.0) ds es ∙ or_first (list_any (λ (d : Deed). answers c tag d.0) ds) (list_any (λ (d : Deed). answers c tag d.0) es) h
answered-stays c (Replies reply) ds es h = absurd (false≢true h)
answered-stays c (Owns q) ds es h = absurd (false≢true h)
answered-stays c Notices ds es h = absurd (false≢true h)

shows_arrival-stays : (c : ℕ) (h : Handed) (ds es : List Deed) → shows_arrival c h ds ≡ true → shows_arrival c h (ds ++ es) ≡ true
shows_arrival-stays c h ds es shows =
    or_stays (h.out.takes && is_acknowledged c h.stat_sn (wire (h.stat_sn + 1)) ds) (is_answered c h.out.pdu ds)
    (h.out.takes && is_acknowledged c h.stat_sn (wire (h.stat_sn + 1)) (ds ++ es)) (is_answered c h.out.pdu (ds ++ es))
    (λ k. let parts = and_parts h.out.takes (is_acknowledged c h.stat_sn (wire (h.stat_sn + 1)) ds) k in
    and_both h.out.takes (is_acknowledged c h.stat_sn (wire (h.stat_sn + 1)) (ds ++ es)) parts.0 (acknowledged-stays c h.stat_sn (wire (h.stat_sn + 1)) ds es parts.1))
    (answered-stays c h.out.pdu ds es) shows

-- of the PDU that this deed hands out there the deeds show that it arrived
abbrev pub shows_of : ℕ → Option (ℕ × Handed) → List Deed → Bool
shows_of c x ds = elim x [ Some g ↦ g.0 == c && shows_arrival c g.1 ds | None ↦ false ]

shows_of-stays : (c : ℕ) (x : Option (ℕ × Handed)) (ds es : List Deed) → shows_of c x ds ≡ true → shows_of c x (ds ++ es) ≡ true
shows_of-stays c None ds es h = absurd (false≢true h)
shows_of-stays c (Some g) ds es h =
    let parts = and_parts (g.0 == c) (shows_arrival c g.1 ds) h in
    and_both (g.0 == c) (shows_arrival c g.1 (ds ++ es)) parts.0 (shows_arrival-stays c g.1 ds es parts.1)

shows_later-stays : (c : ℕ) (ds es : List Deed) → shows_later c ds ≡ true → shows_later c (ds ++ es) ≡ true
shows_later-stays c [] es h = absurd (false≢true h)
shows_later-stays c (d ∷ ds) es h =
    or_stays (shows_of c (handed_in_deed d) ds) (shows_later c ds) (shows_of c (handed_in_deed d) (ds ++ es)) (shows_later c (ds ++ es)) (shows_of-stays c (handed_in_deed d) ds es) (shows_later-stays c ds es) h

pub arrived-stays : (c : ℕ) (h : Handed) (ds es : List Deed) → has_arrived c h ds ≡ true → has_arrived c h (ds ++ es) ≡ true
arrived-stays c h ds es is =
    or_stays (shows_arrival c h ds) (shows_later c ds) (shows_arrival c h (ds ++ es)) (shows_later c (ds ++ es)) (shows_arrival-stays c h ds es) (shows_later-stays c ds es) is

-- one behind it arrived
pub arrived_behind : (c : ℕ) (before after : List Deed) (deed : Deed) (g : Handed) → handed_in_deed deed ≡ Some (c, g) → shows_arrival c g after ≡ true → shows_later c (before ++ deed ∷ after) ≡ true
arrived_behind c [] after deed g shown arrives =
    or_first (shows_of c (handed_in_deed deed) after) (shows_later c after)
    (ap (λ (x : Option (ℕ × Handed)). shows_of c x after) shown ∙ and_both (c == c) (shows_arrival c g after) (eq-eqb c c refl) arrives)
arrived_behind c (d ∷ before) after deed g shown arrives =
    or_second (shows_of c (handed_in_deed d) (before ++ deed ∷ after)) (shows_later c (before ++ deed ∷ after)) (arrived_behind c before after deed g shown arrives)

-- what is known to have arrived, or something behind it, by one deed more
pub arrives_with : (c : ℕ) (ds earlier since : List Deed) (deed d : Deed) (h : Handed) (xs ys : List Handed) (g : Handed) → earlier ++ deed ∷ since ≡ ds → handed_in_deed deed ≡ Some (c, h)
    → handed_on c ds ≡ xs ++ g ∷ ys → length (handed_on c earlier) ≤ length xs
    → ((before after : List Deed) (e : Deed) → before ++ e ∷ after ≡ ds → handed_in_deed e ≡ Some (c, g) → shows_arrival c g (after ++ d ∷ []) ≡ true) → has_arrived c h (since ++ d ∷ []) ≡ true
arrives_with c ds earlier since deed d h xs ys g whole shown all low arrives = ⊎_elim same behind (same_cut (handed_on c earlier) (handed_on c since) xs ys h g parts low)
  where
    parts : handed_on c earlier ++ h ∷ handed_on c since ≡ xs ++ g ∷ ys
    parts =
        sym (ap (handed_on c) (sym whole) ∙ handed_on-append c earlier (deed ∷ since) ∙ ap (λ hs. handed_on c earlier ++ hs) (on_more c deed since ∙ ap (λ hs. hs ++ handed_on c since) (some_on c deed h shown)))
        ∙ all

    same : h ≡ g → has_arrived c h (since ++ d ∷ []) ≡ true
    same is =
        or_first (shows_arrival c h (since ++ d ∷ [])) (shows_later c (since ++ d ∷ []))
        (ap (λ (x : Handed). shows_arrival c x (since ++ d ∷ [])) is ∙ arrives earlier since deed whole (shown ∙ ap (λ (x : Handed). Some (c, x)) is))

    behind : (zs : List Handed) × (handed_on c since ≡ zs ++ g ∷ ys) → has_arrived c h (since ++ d ∷ []) ≡ true
    behind k =
        let s : OnSplit c since k.0 g = split_on c since k.0 ys g k.1 in
        let cut : (earlier ++ deed ∷ s.before) ++ s.deed ∷ s.after ≡ ds = append_assoc earlier (deed ∷ s.before) (s.deed ∷ s.after) ∙ ap (λ es. earlier ++ deed ∷ es) s.whole ∙ whole in
        or_second (shows_arrival c h (since ++ d ∷ [])) (shows_later c (since ++ d ∷ []))
        (subst (λ es. shows_later c (es ++ d ∷ []) ≡ true) s.whole
        (subst (λ es. shows_later c es ≡ true) (sym (append_assoc s.before (s.deed ∷ s.after) (d ∷ []))) (arrived_behind c s.before (s.after ++ d ∷ []) s.deed g s.shown (arrives (earlier ++ deed ∷ s.before) s.after s.deed cut s.shown))))

-- ---- how many were written

on_count : (c : ℕ) (d : Deed) → length (handed_on c (d ∷ [])) ≡ cond (is_handed_on c d) 1 0
on_count c d = by_shown (handed_in_deed d)
  where
    by_shown : (x : Option (ℕ × Handed)) → length (map (λ (g : ℕ × Handed). g.1) (filter (λ (g : ℕ × Handed). g.0 == c) (cons_option x []))) ≡ cond (elim x [ Some g ↦ g.0 == c | None ↦ false ]) 1 0
    by_shown None = refl
    by_shown (Some g) = elim (g.0 == c) as (λ v. length (map (λ (k : ℕ × Handed). k.1) (cond v (g ∷ []) [])) ≡ cond v 1 0) [ true ↦ refl | false ↦ refl ]

pub count_more : (c : ℕ) (d : Deed) (ds : List Deed) → length (handed_on c (d ∷ ds)) ≡ cond (is_handed_on c d) 1 0 + length (handed_on c ds)
count_more c d ds = ap length (on_more c d ds) ∙ length-append (handed_on c (d ∷ [])) (handed_on c ds) ∙ ap (λ n. n + length (handed_on c ds)) (on_count c d)

-- one written more, if one may be
abbrev pub one_more : Bool → ℕ → ℕ → ℕ
one_more write handed written = cond (write && nat_lt written handed) (written + 1) written

writes_from-more : (c handed written : ℕ) (ds : List Deed) (d : Deed) → writes_from c handed written (ds ++ d ∷ []) ≡ one_more (is_write_of c d.0) (handed + length (handed_on c ds)) (writes_from c handed written ds)
writes_from-more c handed written [] d = ap (λ n. one_more (is_write_of c d.0) n written) (let z : handed ≡ handed + 0 = omega arith in z)
writes_from-more c handed written (e ∷ ds) d =
    writes_from-more c (cond (is_handed_on c e) (handed + 1) handed) (one_more (is_write_of c e.0) handed written) ds d
    ∙ ap (λ n. one_more (is_write_of c d.0) n (writes_from c (cond (is_handed_on c e) (handed + 1) handed) (one_more (is_write_of c e.0) handed written) ds)) (by_handed (is_handed_on c e) (count_more c e ds))
  where
    by_handed : (v : Bool) → length (handed_on c (e ∷ ds)) ≡ cond v 1 0 + length (handed_on c ds) → cond v (handed + 1) handed + length (handed_on c ds) ≡ handed + length (handed_on c (e ∷ ds))
    by_handed true is = omega (arith, is)
    by_handed false is = omega (arith, is)

pub writes_on-more : (c : ℕ) (ds : List Deed) (d : Deed) → writes_on c (ds ++ d ∷ []) ≡ one_more (is_write_of c d.0) (length (handed_on c ds)) (writes_on c ds)
writes_on-more c ds d = writes_from-more c 0 0 ds d ∙ ap (λ n. one_more (is_write_of c d.0) n (writes_on c ds)) (let z : 0 + length (handed_on c ds) ≡ length (handed_on c ds) = omega arith in z)
