use Rattle.std.specs.Prelude.{refl}
use Rattle.std.proofs.Common.{◌≡◌, ◌∙◌, ap, sym, subst, rules, [], length, replicate}
use Rattle.iscsi_rules.specs.rules.Settings.{Setting}
use Rattle.iscsi_session.specs.promises.Settings.{setting_of}
use Rattle.iscsi_threads.specs.rules.Journal.{cids_of, parts, AllDiffer}
use Rattle.iscsi_session.specs.private.Standing.{StandsFor}
use Rattle.iscsi_threads.proofs.OpenLemmas.{Limits, limits, parts_none, range_none, differ_of}
use Rattle.iscsi_threads.proofs.opening.make.Goals as goal

pub invariant_of-core : goal.invariant_of-core
invariant_of-core c =
    let o : Setting = setting_of c.args.options in
    let same : setting_of c.in_ok-kept.kept ≡ o = c.in_ok-kept.ensures.same in
    let lim : Limits o = limits o c.requires in
    let units = lim.units in let conns = lim.conns in
    let lens = c.in_ok-inlets.ensures.lens in let lens' = c.in_ok-outlets.ensures.lens in
    let kept : length c.in_ok-kept.kept.conns.items ≡ length c.args.options.conns.items = ap (λ (s : Setting). length s.conns) same in
    let count : c.len.result ≡ length c.args.options.conns.items = search rules in
    record {
      sizes = search rules;
      differ = subst (λ (s : Setting). AllDiffer (cids_of s)) (sym same) (differ_of c.args.options.conns.items lim.distinct);
      stands = rw c.new-5.ensures.items (subst (λ (s : Setting). StandsFor s c.in-Ok.session []) (sym same) c.in-Ok.ensures.stands);
      sourced = rw (c.new-5.ensures.items, c.new-6.ensures.items) refl;
      headers = rw c.new-5.ensures.items (c.in_ok-inlets.ensures.got ∙ ap (λ k. replicate k []) count ∙ parts_none c.args.options.conns.items ∙ ap (λ (s : Setting). parts (cids_of s) []) (sym same));
      answers = rw (lens'.0, c.new-5.ensures.items) (c.in_ok-outlets.ensures.heard ∙ range_none 0 _ []);
      known = rw (c.new-5.ensures.items, c.new-3.ensures.items) refl;
      jobs = rw (lens'.0, c.new-5.ensures.items, c.new-4.ensures.items) (c.in_ok-outlets.ensures.given ∙ range_none 0 _ []);
    }

pub returns : goal.returns
returns c =
    let o : Setting = setting_of c.args.options in
    let count : c.len.result ≡ length c.args.options.conns.items = search rules in
    record {
      setting_is = c.in_ok-kept.ensures.same;
      belong = (c.in_ok-inlets.ensures.rings, c.in_ok-outlets.ensures.rings);
      journal_is = c.new-5.ensures.items;
      sources_are = c.new-6.ensures.items;
      posted_are = c.in_ok-inlets.ensures.posted ∙ ap (λ k. replicate k []) count;
      taken_are = c.in_ok-outlets.ensures.taken;
      answered_are = c.in_ok-outlets.ensures.answered;
    }
