use Rattle.reconcile.proofs.Common.{◌≡◌, ◌<◌, ◌-◌, length, sym, ap, ◌∙◌, subst, arith, AreWithin, rank_among}
use Rattle.reconcile.specs.inner.Suffixes.{items_of_suffixes, AreSuffixes, AreLayered, lengths_first}
use Rattle.reconcile.proofs.Answering.{few-turned, length-layered-le, within-layered, answer-turned}
use Rattle.reconcile.proofs.Layers.{first_key}
use Rattle.reconcile.proofs.Turned.{seen-turned, turned-suffixes}
use Rattle.reconcile.proofs.suffixes.scuttle_delta.Goals as goal
use Rattle.reconcile.proofs.suffixes.scuttle_delta.Goals.{in-ScuttleBreadth+in_ok-items-in-ScuttleBreadth, in-ScuttleDepth+in_ok-items-in-ScuttleDepth}

pub count_of-found-requires : goal.count_of-found-requires
count_of-found-requires c =
    let in_nodes = subst (λ n. c.args.question.turns.rotation < n) c.requires.nodes c.requires.rotation in
    let turned = seen-turned c.args.question.turns.rotation c.deref_mut.result.now c.in_ok-suffixes.suffixes.items c.turn_to.new.suffixes _ c.deref.result.now c.in_ok-suffixes.suffixes.len c.deref_mut.ensures.value c.in_ok-suffixes.suffixes.ok.0 c.turn_to.ensures c.deref.ensures.value in
    few-turned c.args.question.turns.mode c.args.question.table.now.table c.args.question.digest.now c.args.question.receiver c.args.question.turns.rotation c.requires.proper in_nodes c.in_ok-suffixes.suffixes.items c.deref.result.now c.in_ok-suffixes.ensures.all turned

pub by_rank-requires : goal.by_rank-requires
by_rank-requires c =
    let in_nodes = subst (λ n. c.args.question.turns.rotation < n) c.requires.nodes c.requires.rotation in
    let turned = seen-turned c.args.question.turns.rotation c.deref_mut.result.now c.in_ok-suffixes.suffixes.items c.turn_to.new.suffixes _ c.deref.result.now c.in_ok-suffixes.suffixes.len c.deref_mut.ensures.value c.in_ok-suffixes.suffixes.ok.0 c.turn_to.ensures c.deref.ensures.value in
    record { suffixes = subst AreSuffixes c.deref.ensures.value (turned-suffixes c.args.question.table.now.table.nodes c.args.question.turns.rotation in_nodes c.in_ok-suffixes.suffixes.items c.deref.result.now turned c.in_ok-suffixes.ensures.suffixes) }

pub by_length-requires-clause-suffixes : goal.by_length-requires-clause-suffixes
by_length-requires-clause-suffixes c =
    let in_nodes = subst (λ n. c.args.question.turns.rotation < n) c.requires.nodes c.requires.rotation in
    let seen = c.deref-in-ScuttleDepth in
    let turned = seen-turned c.args.question.turns.rotation c.deref_mut.result.now c.in_ok-suffixes.suffixes.items c.turn_to.new.suffixes _ seen.result.now c.in_ok-suffixes.suffixes.len c.deref_mut.ensures.value c.in_ok-suffixes.suffixes.ok.0 c.turn_to.ensures seen.ensures.value in
    turned-suffixes c.args.question.table.now.table.nodes c.args.question.turns.rotation in_nodes c.in_ok-suffixes.suffixes.items seen.result.now turned c.in_ok-suffixes.ensures.suffixes

pub by_length-requires-clause-few : goal.by_length-requires-clause-few
by_length-requires-clause-few c =
    let in_nodes = subst (λ n. c.args.question.turns.rotation < n) c.requires.nodes c.requires.rotation in
    let seen = c.deref-in-ScuttleDepth in
    let turned = seen-turned c.args.question.turns.rotation c.deref_mut.result.now c.in_ok-suffixes.suffixes.items c.turn_to.new.suffixes _ seen.result.now c.in_ok-suffixes.suffixes.len c.deref_mut.ensures.value c.in_ok-suffixes.suffixes.ok.0 c.turn_to.ensures seen.ensures.value in
    few-turned c.args.question.turns.mode c.args.question.table.now.table c.args.question.digest.now c.args.question.receiver c.args.question.turns.rotation c.requires.proper in_nodes c.in_ok-suffixes.suffixes.items seen.result.now c.in_ok-suffixes.ensures.all turned

pub overflow_sub-cut : goal.overflow_sub-cut
overflow_sub-cut c =
    let found = c.count_of-found.ensures in
    elim c.match-question.branch [
      | in-ScuttleBreadth+in_ok-items-in-ScuttleBreadth w ↦
          let all = items_of_suffixes c.deref.result.now in
          let items = w.in_ok-items-in-ScuttleBreadth.items in
          let layers = subst (λ rs. AreLayered (rank_among (items_of_suffixes rs)) c.args.question.budget (items_of_suffixes rs) items.items) (sym c.deref.ensures.value) w.in_ok-items-in-ScuttleBreadth.ensures.layers in
          omega (arith, found, c.len.ensures, ap (λ v. v.len) w.items-is, items.ok.0, length-layered-le (rank_among all) c.args.question.budget all items.items layers)
      | in-ScuttleDepth+in_ok-items-in-ScuttleDepth w ↦
          let seen = w.deref-in-ScuttleDepth in
          let all = items_of_suffixes seen.result.now in
          let items = w.in_ok-items-in-ScuttleDepth.items in
          let same = ap (λ rs. length (items_of_suffixes rs)) (c.deref.ensures.value ∙ sym seen.ensures.value) in
          omega (arith, found, same, c.len.ensures, ap (λ v. v.len) w.items-is, items.ok.0, length-layered-le (lengths_first all) c.args.question.budget all items.items w.in_ok-items-in-ScuttleDepth.ensures.layers)
    ]

pub overflow_cast-cut : goal.overflow_cast-cut
overflow_cast-cut c =
    let in_nodes = subst (λ n. c.args.question.turns.rotation < n) c.requires.nodes c.requires.rotation in
    let turned = seen-turned c.args.question.turns.rotation c.deref_mut.result.now c.in_ok-suffixes.suffixes.items c.turn_to.new.suffixes _ c.deref.result.now c.in_ok-suffixes.suffixes.len c.deref_mut.ensures.value c.in_ok-suffixes.suffixes.ok.0 c.turn_to.ensures c.deref.ensures.value in
    omega (arith, c.count_of-found.ensures, few-turned c.args.question.turns.mode c.args.question.table.now.table c.args.question.digest.now c.args.question.receiver c.args.question.turns.rotation c.requires.proper in_nodes c.in_ok-suffixes.suffixes.items c.deref.result.now c.in_ok-suffixes.ensures.all turned)

pub returns-clause-ok : goal.returns-clause-ok
returns-clause-ok c =
    let t = c.args.question.table.now.table in
    let told = c.args.question.digest.now in
    let rotation = c.args.question.turns.rotation in
    let budget = c.args.question.budget in
    let old = c.in_ok-suffixes.suffixes.items in
    let in_nodes = subst (λ n. rotation < n) c.requires.nodes c.requires.rotation in
    elim c.match-question.branch [
      | in-ScuttleBreadth+in_ok-items-in-ScuttleBreadth w ↦
          let seen = c.deref in
          let items = w.in_ok-items-in-ScuttleBreadth.items in
          let turned = seen-turned rotation c.deref_mut.result.now old c.turn_to.new.suffixes _ seen.result.now c.in_ok-suffixes.suffixes.len c.deref_mut.ensures.value c.in_ok-suffixes.suffixes.ok.0 c.turn_to.ensures seen.ensures.value in
          let ranks = subst (λ rs. AreLayered (rank_among (items_of_suffixes rs)) budget (items_of_suffixes rs) items.items) (sym seen.ensures.value) w.in_ok-items-in-ScuttleBreadth.ensures.layers in
          let layers = subst (λ mode. AreLayered (first_key mode (items_of_suffixes seen.result.now)) budget (items_of_suffixes seen.result.now) items.items) (sym w.in-ScuttleBreadth.is) ranks in
          (λ i. record { items = ap (λ v. v.items) w.items-is i; cut = c.count_of-found.ensures i - (c.len.ensures ∙ ap (λ v. v.len) w.items-is ∙ items.ok.0) i })
          ∙ answer-turned c.args.question.turns.mode t told c.args.question.receiver rotation c.requires.proper in_nodes old seen.result.now c.in_ok-suffixes.ensures.all turned c.requires.mode budget items.items layers
      | in-ScuttleDepth+in_ok-items-in-ScuttleDepth w ↦
          let seen = w.deref-in-ScuttleDepth in
          let items = w.in_ok-items-in-ScuttleDepth.items in
          let turned = seen-turned rotation c.deref_mut.result.now old c.turn_to.new.suffixes _ seen.result.now c.in_ok-suffixes.suffixes.len c.deref_mut.ensures.value c.in_ok-suffixes.suffixes.ok.0 c.turn_to.ensures seen.ensures.value in
          let found : c.count_of-found.result ≡ length (items_of_suffixes seen.result.now) = c.count_of-found.ensures ∙ ap (λ rs. length (items_of_suffixes rs)) (c.deref.ensures.value ∙ sym seen.ensures.value) in
          let layers = subst (λ mode. AreLayered (first_key mode (items_of_suffixes seen.result.now)) budget (items_of_suffixes seen.result.now) items.items) (sym w.in-ScuttleDepth.is) w.in_ok-items-in-ScuttleDepth.ensures.layers in
          (λ i. record { items = ap (λ v. v.items) w.items-is i; cut = found i - (c.len.ensures ∙ ap (λ v. v.len) w.items-is ∙ items.ok.0) i })
          ∙ answer-turned c.args.question.turns.mode t told c.args.question.receiver rotation c.requires.proper in_nodes old seen.result.now c.in_ok-suffixes.ensures.all turned c.requires.mode budget items.items layers
    ]

pub returns-clause-within : goal.returns-clause-within
returns-clause-within c =
    elim c.match-question.branch [
      | in-ScuttleBreadth+in_ok-items-in-ScuttleBreadth w ↦
          subst (λ v. AreWithin c.args.question.budget v.items) (sym w.items-is) (within-layered _ c.args.question.budget _ _ w.in_ok-items-in-ScuttleBreadth.ensures.layers)
      | in-ScuttleDepth+in_ok-items-in-ScuttleDepth w ↦
          subst (λ v. AreWithin c.args.question.budget v.items) (sym w.items-is) (within-layered _ c.args.question.budget _ _ w.in_ok-items-in-ScuttleDepth.ensures.layers)
    ]

pub returns-clause-few : goal.returns-clause-few
returns-clause-few c =
    let found = c.count_of-found.ensures in
    let in_nodes = subst (λ n. c.args.question.turns.rotation < n) c.requires.nodes c.requires.rotation in
    let turned = seen-turned c.args.question.turns.rotation c.deref_mut.result.now c.in_ok-suffixes.suffixes.items c.turn_to.new.suffixes _ c.deref.result.now c.in_ok-suffixes.suffixes.len c.deref_mut.ensures.value c.in_ok-suffixes.suffixes.ok.0 c.turn_to.ensures c.deref.ensures.value in
    let few = few-turned c.args.question.turns.mode c.args.question.table.now.table c.args.question.digest.now c.args.question.receiver c.args.question.turns.rotation c.requires.proper in_nodes c.in_ok-suffixes.suffixes.items c.deref.result.now c.in_ok-suffixes.ensures.all turned in
    elim c.match-question.branch [
      | in-ScuttleBreadth+in_ok-items-in-ScuttleBreadth w ↦
          let all = items_of_suffixes c.deref.result.now in
          let items = w.in_ok-items-in-ScuttleBreadth.items in
          let layers = subst (λ rs. AreLayered (rank_among (items_of_suffixes rs)) c.args.question.budget (items_of_suffixes rs) items.items) (sym c.deref.ensures.value) w.in_ok-items-in-ScuttleBreadth.ensures.layers in
          omega (arith, few, ap (λ v. length v.items) w.items-is, length-layered-le (rank_among all) c.args.question.budget all items.items layers)
      | in-ScuttleDepth+in_ok-items-in-ScuttleDepth w ↦
          let seen = w.deref-in-ScuttleDepth in
          let all = items_of_suffixes seen.result.now in
          let items = w.in_ok-items-in-ScuttleDepth.items in
          let same = ap (λ rs. length (items_of_suffixes rs)) (c.deref.ensures.value ∙ sym seen.ensures.value) in
          omega (arith, few, same, ap (λ v. length v.items) w.items-is, length-layered-le (lengths_first all) c.args.question.budget all items.items w.in_ok-items-in-ScuttleDepth.ensures.layers)
    ]
