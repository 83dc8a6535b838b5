-- The names of projects and tables.
use Rattle.std.proofs.Common.{◌≡◌, ℕ, ◌<◌, ◌≤◌, Bool, true, List, [], ◌∷◌, ◌++◌, length, IsTrue, Some, None, refl, sym, ap, subst, ◌∙◌, arith, append_assoc, lit≤}
use Rattle.std.specs.Prelude.{◌&&◌, codes}
use Rattle.std.specs.List.{AllByRecursion, join_with_byte}
use Rattle.std.proofs.lemmas.Bool.{and_parts, and_from}
use Rattle.std.proofs.lemmas.List.Splits.{join_with_byte-slice_split}
use Rattle.resource_names.specs.declared.projects.ProjectName.{ProjectName}
use Rattle.resource_names.specs.declared.tables.TableName.{TableName}
use Rattle.resource_names.specs.Part.{is_part, is_named, parts_of}
use Rattle.resource_names.specs.Project.{IsProject, project_in, project_name_of}
use Rattle.resource_names.specs.Table.{table_text, HasParts, IsTable, table_in, table_name_of}
use Rattle.resource_names.proofs.PartLemmas.{if_some, if_true, some_same, none_if, NoSlash, part_has_none, word_has_none, parts_joined, part_most, joined_most, named_parts, named_from}

-- a text is its words and parts, joined
pub joined : (text : List ℕ) (parts : List (List ℕ)) → parts_of text ≡ parts → text ≡ join_with_byte 47 parts
joined text parts e = sym (join_with_byte-slice_split 47 text) ∙ ap (join_with_byte 47) e

-- ---- projects

abbrev pub project_parts : ProjectName → List (List ℕ)
project_parts name = codes "projects" ∷ name.project ∷ []

project_found : (parts : List (List ℕ)) (name : ProjectName) → project_in parts ≡ Some name → (parts ≡ project_parts name) × IsTrue (is_part name.project)
project_found [] name e = absurd cc
project_found (word ∷ []) name e = absurd cc
project_found (word ∷ part ∷ []) name e =
    let got = if_some (is_named (codes "projects") word part) (Some (record { project = part })) name e in
    let same = some_same (record { project = part }) name got.1 in
    let named = named_parts (codes "projects") word part got.0 in
    (ap (λ (w : List ℕ). w ∷ part ∷ []) named.0 ∙ ap project_parts same, subst (λ (n : ProjectName). IsTrue (is_part n.project)) same named.1)
project_found (word ∷ part ∷ other ∷ more) name e = absurd cc

pub project_spelled : (text : List ℕ) (name : ProjectName) → project_name_of text ≡ Some name → IsProject text name
unfolding project_name_of
project_spelled text name e =
    let found = project_found (parts_of text) name e in
    record { project = found.1; spelled = joined text (project_parts name) found.0 }

pub project_read : (text : List ℕ) (name : ProjectName) → IsProject text name → project_name_of text ≡ Some name
unfolding project_name_of
project_read text name is =
    ap project_name_of is.spelled
    ∙ ap project_in (parts_joined (codes "projects") (name.project ∷ []) (word_has_none (codes "projects") refl) (part_has_none name.project is.project, tt))
    ∙ if_true (is_named (codes "projects") (codes "projects") name.project) (Some name) (named_from (codes "projects") name.project is.project)

pub project_short : (text : List ℕ) → 551 < length text → project_name_of text ≡ None
project_short text long =
    none_if (project_name_of text) (λ name e.
    let is = project_spelled text name e in
    let most = joined_most (codes "projects") name.project [] 8 128 (lit≤ tt) (part_most name.project is.project) in
    omega (arith, long, most, ap length is.spelled))

-- ---- tables

abbrev pub table_parts : TableName → List (List ℕ)
table_parts name = codes "projects" ∷ name.project ∷ codes "datasets" ∷ name.dataset ∷ codes "tables" ∷ name.table ∷ []

-- three words with their parts
three : (a b c : Bool) → (a && b && c) ≡ true → (a ≡ true) × (b ≡ true) × (c ≡ true)
three a b c e = let left = and_parts (a && b) c e in let first = and_parts a b left.0 in (first.0, first.1, left.1)

six : (a p b d c t : List ℕ) (name : TableName) → table_in (a ∷ p ∷ b ∷ d ∷ c ∷ t ∷ []) ≡ Some name
    → ((a ∷ p ∷ b ∷ d ∷ c ∷ t ∷ []) ≡ table_parts name) × HasParts name
six a p b d c t name e =
    let table : TableName = record { project = p; dataset = d; table = t } in
    let got = if_some (is_named (codes "projects") a p && is_named (codes "datasets") b d && is_named (codes "tables") c t) (Some table) name e in
    let same = some_same table name got.1 in
    let each = three (is_named (codes "projects") a p) (is_named (codes "datasets") b d) (is_named (codes "tables") c t) got.0 in
    let project = named_parts (codes "projects") a p each.0 in
    let dataset = named_parts (codes "datasets") b d each.1 in
    let of_table = named_parts (codes "tables") c t each.2 in (
      ap (λ (w : List ℕ). w ∷ p ∷ b ∷ d ∷ c ∷ t ∷ []) project.0
          ∙ ap (λ (w : List ℕ). codes "projects" ∷ p ∷ w ∷ d ∷ c ∷ t ∷ []) dataset.0
          ∙ ap (λ (w : List ℕ). codes "projects" ∷ p ∷ codes "datasets" ∷ d ∷ w ∷ t ∷ []) of_table.0
          ∙ ap table_parts same,
      subst HasParts same (record { project = project.1; dataset = dataset.1; table = of_table.1 }),
    )

pub table_found : (parts : List (List ℕ)) (name : TableName) → table_in parts ≡ Some name → (parts ≡ table_parts name) × HasParts name
table_found [] name e = absurd cc
table_found (a ∷ []) name e = absurd cc
table_found (a ∷ p ∷ []) name e = absurd cc
table_found (a ∷ p ∷ b ∷ []) name e = absurd cc
table_found (a ∷ p ∷ b ∷ d ∷ []) name e = absurd cc
table_found (a ∷ p ∷ b ∷ d ∷ c ∷ []) name e = absurd cc
table_found (a ∷ p ∷ b ∷ d ∷ c ∷ t ∷ []) name e = six a p b d c t name e
table_found (a ∷ p ∷ b ∷ d ∷ c ∷ t ∷ other ∷ more) name e = absurd cc

-- words and parts in a row
apart : (a p b d c t : List ℕ) → a ++ p ++ b ++ d ++ c ++ t ≡ a ++ (p ++ (b ++ (d ++ (c ++ t))))
apart a p b d c t =
    append_assoc (a ++ p ++ b ++ d) c t ∙ append_assoc (a ++ p ++ b) d (c ++ t) ∙ append_assoc (a ++ p) b (d ++ (c ++ t)) ∙ append_assoc a p (b ++ (d ++ (c ++ t)))

-- the words and parts of a name, joined, are its text
pub table_joined : (name : TableName) → join_with_byte 47 (table_parts name) ≡ table_text name
table_joined name = sym (apart (codes "projects/") name.project (codes "/datasets/") name.dataset (codes "/tables/") name.table)

-- and with what stands behind them
pub table_before : (name : TableName) (first : List ℕ) (more : List (List ℕ))
    → join_with_byte 47 (codes "projects" ∷ name.project ∷ codes "datasets" ∷ name.dataset ∷ codes "tables" ∷ name.table ∷ first ∷ more) ≡ table_text name ++ (47 ∷ join_with_byte 47 (first ∷ more))
table_before name first more =
    let behind = 47 ∷ join_with_byte 47 (first ∷ more) in
    sym (append_assoc (codes "projects/" ++ name.project ++ codes "/datasets/" ++ name.dataset ++ codes "/tables/") name.table behind
    ∙ apart (codes "projects/") name.project (codes "/datasets/") name.dataset (codes "/tables/") (name.table ++ behind))

pub words_have_none : (name : TableName) (more : List (List ℕ)) → HasParts name → AllByRecursion NoSlash more
    → AllByRecursion NoSlash (name.project ∷ codes "datasets" ∷ name.dataset ∷ codes "tables" ∷ name.table ∷ more)
words_have_none name more has nones =
    (part_has_none name.project has.project, (word_has_none (codes "datasets") refl, (part_has_none name.dataset has.dataset, (word_has_none (codes "tables") refl, (part_has_none name.table has.table, nones)))))

pub table_of_parts : (name : TableName) → HasParts name → table_in (table_parts name) ≡ Some name
table_of_parts name has =
    let project = is_named (codes "projects") (codes "projects") name.project in
    let dataset = is_named (codes "datasets") (codes "datasets") name.dataset in
    let of_table = is_named (codes "tables") (codes "tables") name.table in
    if_true (project && dataset && of_table) (Some name)
    (and_from (project && dataset) of_table (and_from project dataset (named_from (codes "projects") name.project has.project) (named_from (codes "datasets") name.dataset has.dataset)) (named_from (codes "tables") name.table has.table))

pub table_spelled : (text : List ℕ) (name : TableName) → table_name_of text ≡ Some name → IsTable text name
unfolding table_name_of
table_spelled text name e =
    let found = table_found (parts_of text) name e in
    record { parts = found.1; spelled = joined text (table_parts name) found.0 ∙ table_joined name }

pub table_read : (text : List ℕ) (name : TableName) → IsTable text name → table_name_of text ≡ Some name
unfolding table_name_of
table_read text name is =
    ap (λ (t : List ℕ). table_in (parts_of t)) (is.spelled ∙ sym (table_joined name))
    ∙ ap table_in (parts_joined (codes "projects") (name.project ∷ codes "datasets" ∷ name.dataset ∷ codes "tables" ∷ name.table ∷ []) (word_has_none (codes "projects") refl) (words_have_none name [] is.parts tt))
    ∙ table_of_parts name is.parts

-- the longest text of a table's words and parts, with as many bytes behind them
pub table_most : (name : TableName) → HasParts name → length (join_with_byte 47 (table_parts name)) ≤ 411
table_most name has =
    joined_most (codes "projects") name.project (codes "datasets" ∷ name.dataset ∷ codes "tables" ∷ name.table ∷ []) 8 402 (lit≤ tt) (
    joined_most name.project (codes "datasets") (name.dataset ∷ codes "tables" ∷ name.table ∷ []) 128 273 (part_most name.project has.project) (
    joined_most (codes "datasets") name.dataset (codes "tables" ∷ name.table ∷ []) 8 264 (lit≤ tt) (
    joined_most name.dataset (codes "tables") (name.table ∷ []) 128 135 (part_most name.dataset has.dataset) (
    joined_most (codes "tables") name.table [] 6 128 (lit≤ tt) (part_most name.table has.table)))))

pub table_short : (text : List ℕ) → 551 < length text → table_name_of text ≡ None
table_short text long =
    none_if (table_name_of text) (λ name e.
    let is = table_spelled text name e in
    omega (arith, long, table_most name is.parts, ap length (is.spelled ∙ sym (table_joined name))))
