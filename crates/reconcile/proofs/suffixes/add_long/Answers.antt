use Rattle.reconcile.proofs.Common.{◌≡◌, [], length, take, get_or, cond, sym, ap, subst, arith, flat_map, eq-eqb, ne_eqb}
use Rattle.reconcile.specs.inner.Parcels.{AddsFitting}
use Rattle.reconcile.specs.inner.Suffixes.{suffix_items, of_length}
use Rattle.reconcile.proofs.Adding.{adds-none, adds-append}
use Rattle.reconcile.proofs.SuffixLayers.{no_suffix, suffixes-more}
use Rattle.reconcile.proofs.suffixes.add_long.Goals as goal
use Rattle.reconcile.proofs.suffixes.add_long.Goals.{then-suffix-len+in_ok-add_entries, else-suffix-len}

pub loop-suffix-preserved : goal.loop-suffix-preserved
loop-suffix-preserved c =
    let suffixes = c.args.suffixes.now in
    let at = c.loop-suffix.suffix-index in
    let len = c.args.len in
    let part = of_length len in
    let suffix = get_or suffixes at no_suffix in
    let more = suffixes-more part suffixes at no_suffix c.loop-suffix-test.true in
    subst (λ is. AddsFitting is c.args.parcel.now c.if-suffix-len.parcel) more
    (adds-append (flat_map part (take at suffixes)) (part suffix) c.args.parcel.now c.loop-suffix.parcel c.if-suffix-len.parcel c.loop-suffix.invariant
    (elim c.if-suffix-len.branch [
      | then-suffix-len+in_ok-add_entries w ↦
          let sends : suffix_items suffix ≡ part suffix = ap (λ b. cond b (suffix_items suffix) []) (sym (eq-eqb (length suffix.entries.now) len (omega (arith, w.if-suffix-len.true)))) in
          subst (AddsFitting (part suffix) c.loop-suffix.parcel) (sym w.parcel-is) (subst (λ is. AddsFitting is c.loop-suffix.parcel w.add_entries.new.self) sends w.in_ok-add_entries.ensures.added)
      | else-suffix-len w ↦
          let none : [] ≡ part suffix = ap (λ b. cond b (suffix_items suffix) []) (sym (ne_eqb (length suffix.entries.now) len (λ e. w.if-suffix-len.false e))) in
          subst (AddsFitting (part suffix) c.loop-suffix.parcel) (sym w.parcel-is) (subst (λ is. AddsFitting is c.loop-suffix.parcel c.loop-suffix.parcel) none (adds-none c.loop-suffix.parcel))
    ]))
