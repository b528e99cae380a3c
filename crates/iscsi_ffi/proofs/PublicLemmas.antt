-- A call, from its begin to its end.
use Rattle.std.proofs.Common.{◌≡◌, ◌∙◌, ◌++◌, true, false, List, [], ◌∷◌, drop, refl, sym, ap, subst}
use Rattle.std.proofs.lemmas.Bool.{false≢true}
use Rattle.iscsi_ffi_rules.specs.rules.Calls.{Call, Interface}
use Rattle.iscsi_ffi_steps.specs.Walk.{Doing}
use Rattle.iscsi_ffi_steps.specs.Steps.{Answer, Going, Side, after, begun as begun_steps, called, ended, going, told}
use Rattle.iscsi_ffi.specs.Standing.{Begun, Follows, Sided, Stands, TakesAs, going_of, is_waiting, next_call, through, waiting}

through-push : (i : Interface) (g : Going) (cs : List Call) (c : Call) → through i g (cs ++ c ∷ []) ≡ next_call i (through i g cs) c
through-push i g [] c = refl
through-push i g (d ∷ cs) c = through-push i (next_call i g d) cs c

-- what is told of a call that has just ended
all_waits : (i : Interface) (v : Sided) (g : Going) → Begun i v g → waiting v ≡ told g
all_waits i v g b =
    ap (λ n. drop n v.desk.actions ++ drop v.forgotten v.desk.forgets) b.given
    ∙ ap (λ n. v.desk.actions ++ drop n v.desk.forgets) b.forgotten
    ∙ ap (λ (d : Doing). d.actions ++ d.forgets) b.stands.doing

module _ {A : Type 0} (say : Answer → A) (wait : A) (c : Call) (old : Sided) where
  pub call_taken : (begun mid new : Sided) (answer : A) → is_waiting old ≡ false
      → ((i : Interface) (g : Going) → Stands i old g → Begun i begun (going (after g)))
      → ((i : Interface) (s : Side) → Begun i begun (going s) → Begun i mid (called i c s).going)
      → ((i : Interface) (s : Side) → Begun i begun (going s) → answer ≡ say (called i c s).answer)
      → ((i : Interface) (g : Going) → Begun i mid g → Begun i new (ended g))
      → TakesAs say wait c old new answer
  call_taken begun mid new answer none begins goes says ends =
      let all : (i : Interface) (cs : List Call) → Follows i old cs → Begun i new (going_of i (cs ++ c ∷ [])) = λ i cs f.
      let P : Going → Type 0 = λ g. Begun i new g in
      subst P (sym (through-push i (going (begun_steps i)) cs c)) (ends i _ (goes i (after (going_of i cs)) (begins i (going_of i cs) f))) in
      record {
        follows = λ i cs f w. (all i cs f).stands;
        answers = λ i cs f w. says i (after (going_of i cs)) (begins i (going_of i cs) f);
        tells = λ i cs f w. all_waits i new (going_of i (cs ++ c ∷ [])) (all i cs f);
        waits = λ w. absurd (false≢true (sym none ∙ w));
      }

  -- actions of an earlier call wait
  pub call_waits : is_waiting old ≡ true → TakesAs say wait c old old wait
  call_waits some = record {
    follows = λ i cs f w. absurd (false≢true (sym w ∙ some));
    answers = λ i cs f w. absurd (false≢true (sym w ∙ some));
    tells = λ i cs f w. absurd (false≢true (sym w ∙ some));
    waits = λ w. (refl, refl);
  }
