-- Where generations start in an owner's list.
-- Serves `put_starts`, `start_of` and `version_tables`.
use Rattle.delta_plans.proofs.Common.{◌≡◌, ℕ, ◌-◌, ◌<◌, ◌≤◌, List, length, get_or, refl, sym, ap, ◌∙◌, arith, get_or_default, get_or-append_right, length-append, Entry, OwnerListView, all_writes, entries_of, no_writes, AreWrites, start_before, start_of, numbered-placed, numbered-some}

-- an owner's writes are those of its list
pub all_writes-here : (lists : List OwnerListView) (owner : ℕ) (x : OwnerListView) → owner < length lists → x ≡ get_or lists owner x
    → all_writes lists owner ≡ entries_of x
all_writes-here lists owner x lt is = ap entries_of (get_or_default lists owner no_writes x lt ∙ sym is)

-- a write of an owner's own generation has all those of earlier ones before it
pub start_own : (v : OwnerListView) (number : ℕ) → AreWrites v → length v.earlier < number → number ≤ length (entries_of v)
    → start_of (entries_of v) number ≡ length v.earlier
start_own v number are lt le =
    let there = numbered-some (entries_of v) number (omega (arith, lt)) le in let at = numbered-placed (entries_of v) number there.0 there.1 in
    let behind = get_or-append_right v.earlier v.current (length v.earlier) at.place there.0 refl (omega (arith, lt, at.is)) in
    let next = (are.current (at.place - length v.earlier) there.0 (omega (arith, lt, at.is, at.within, length-append v.earlier v.current))).1 in
    let version = ap (λ (e : Entry). e.version) (sym (at.there there.0) ∙ behind) ∙ next in
    ap (start_before number) there.1 ∙ omega (arith, version, lt, at.is)
