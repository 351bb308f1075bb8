use Rattle.scenario.proofs.Common.{◌≡◌, List, [], ◌∷◌, ◌&&◌, string_bytes, refl, ap, rules, tests, list_all, keys_of, Field, members_view, Entry, all_from_yields_List, YieldsList-from_rest}
use Rattle.scenario.specs.Fields.{has_only, is_among}
use Rattle.scenario.proofs.fields.has_only.Goals as goal

-- the members have only the fields where each key is among them
-- The keys of a table, beside the members that it stands for.
has_only-members_view : (fields : List Field) (es : List Entry) → has_only fields (members_view es) ≡ list_all (λ key. is_among fields (string_bytes key)) (keys_of es)
has_only-members_view fields [] = refl
has_only-members_view fields (e ∷ es) = ap (λ others. is_among fields (string_bytes e.0) && others) (has_only-members_view fields es)

pub returns : goal.returns
returns c =
    rw (has_only-members_view c.args.fields.now c.args.table.now.entries)
    (all_from_yields_List (λ key. is_among c.args.fields.now (string_bytes key)) _ _ _ c.all.ensures.ran (YieldsList-from_rest _ c.keys.ensures.rest) (λ x b q k. search (rules, tests)))
