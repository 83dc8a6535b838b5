-- What a CreateReadSession call asks, by what was read and chosen.
use Rattle.std.proofs.Common.{◌≡◌, ℕ, ◌<◌, ℤ, Bool, true, false, List, [], ◌∷◌, length, Option, Some, None, Result, Ok, Err, refl, sym, ap, ◌∙◌, subst, if◌then◌else◌}
use Rattle.std.specs.Prelude.{slice_get, unwrap_or, IfOk}
use Rattle.outside.specs.declared.wants.Memory.{Memory}
use Rattle.column_types.specs.declared.predicate.Pred.{Pred}
use Rattle.column_types.specs.Fields.{unknown_name}
use Rattle.resource_names.specs.declared.projects.ProjectName.{ProjectName}
use Rattle.resource_names.specs.declared.tables.TableName.{TableName}
use Rattle.resource_names.specs.Project.{project_name_of}
use Rattle.resource_names.specs.Table.{table_name_of, table_text}
use Rattle.table_spec.specs.declared.spec.TableSpec.{TableSpec}
use Rattle.table_model.specs.declared.commands.Command.{Command}
use Rattle.table_model.specs.declared.commands.Command.TheVariants as command
use Rattle.table_model.specs.declared.reasons.Refusal.{Refusal}
use Rattle.table_model.specs.declared.reasons.Why.{Why}
use Rattle.table_model.specs.declared.reasons.Why.TheVariants as why
use Rattle.table_model.specs.declared.replies.Reply.{Reply}
use Rattle.table_model.specs.Reasons.{refusal_of}
use Rattle.table_model.specs.Rules.{Rule, first_refusal, unless}
use Rattle.read_msgs.specs.declared.sessions.ReadSession.{ReadSession}
use Rattle.read_msgs.specs.declared.sessions.CreateReadSessionRequest.{CreateReadSessionRequest}
use Rattle.open_tables.specs.Tables.{OpenTable, TableView, place_of, specs_of}
use Rattle.open_tables.specs.Plans.{Plan, Fixed, At, Gets, on_command}
use Rattle.conn_requests.specs.declared.answers.Answer.{Answer}
use Rattle.call_plans.specs.Endings.{refused_for}
use Rattle.call_plans.specs.Sessions.{no_session, options_in, snapshot_in, session_rules, session_turn, told_begun, session_with, session_by, session_of, session_on, create_session_by}
use Rattle.call_names.proofs.TableLemmas.{on_table-there}
use Rattle.call_read.specs.declared.choosing.Chosen.TheVariants as chosen
use Rattle.call_read.specs.Choosing.{Chooses, IsWanted}

-- ---- the first rule that holds

by_first : {A : Type 0} → Option Why → A → Result A Refusal
by_first None accepted = Ok accepted
by_first (Some cause) accepted = Err (refusal_of cause)

unless-first : {A : Type 0} (rules : List Rule) (accepted : A) (first : Option Why) → first_refusal rules ≡ first
    → unless rules accepted ≡ by_first first accepted
unfolding by_first
unless-first [] accepted None is = refl
unless-first [] accepted (Some cause) is = absurd cc
unless-first (rule ∷ rules) accepted first is = by_test rule.0 (unless-first rules accepted first) is
  where
    by_test : (test : Bool) → (first_refusal rules ≡ first → unless rules accepted ≡ by_first first accepted) → (if test then Some rule.1 else first_refusal rules) ≡ first
        → (if test then Err (refusal_of rule.1) else unless rules accepted) ≡ by_first first accepted
    by_test true behind is = ap (λ f. by_first f accepted) is
    by_test false behind is = behind is

-- ---- what is asked

module _ (tables : List OpenTable) (session : ReadSession) (parent : List ℕ) (count : ℤ) where
  abbrev plan_for : Plan Answer
  plan_for = session_on (specs_of tables) session count (project_name_of parent) (table_name_of session.table)

  module _ (project : ProjectName) (named : Some project ≡ project_name_of parent) where
    by_table : (table : Option TableName) → table ≡ table_name_of session.table → plan_for ≡ session_on (specs_of tables) session count (Some project) table
    by_table table is =
        ap (λ name. session_on (specs_of tables) session count name (table_name_of session.table)) (sym named) ∙ ap (session_on (specs_of tables) session count (Some project)) (sym is)

    module _ (table : TableName) (is_table : Some table ≡ table_name_of session.table) where
      module _ (place : ℕ) (at : Some place ≡ place_of (specs_of tables) (table_text table)) (spec : TableSpec) (there : slice_get (specs_of tables) place ≡ Some spec) where
        by_rules : (first : Option Why) → first_refusal (session_rules session count) ≡ first
            → plan_for ≡ session_by project session place spec.schema count (by_first first (options_in session).selected_fields)
        by_rules first is =
            by_table (Some table) is_table
            ∙ on_table-there (specs_of tables) (refused_for why.NoTable) table (session_of project session count) place spec at there
            ∙ ap (session_by project session place spec.schema count) (unless-first (session_rules session count) (options_in session).selected_fields first is)

        pub wants-hindered : (cause : Why) → first_refusal (session_rules session count) ≡ Some cause → plan_for ≡ Fixed (refused_for cause)
        unfolding by_first
        wants-hindered cause is = by_rules (Some cause) is

        module _ (free : first_refusal (session_rules session count) ≡ None) where
          freed : plan_for ≡ session_with project session place spec.schema count (options_in session).selected_fields (unknown_name spec.schema (options_in session).selected_fields)
          unfolding by_first
          freed = by_rules None free

          pub wants-rows : (fields : List ℕ) (pred : Pred) (snapshot : Option ℤ) → place < length tables → snapshot ≡ snapshot_in session → Chooses spec.schema session (chosen.Rows fields pred)
              → IsWanted tables session parent count (record { project = project; place = place; fields = fields; pred = pred; snapshot = snapshot })
          wants-rows fields pred snapshot within taken chooses = record {
            spec = spec;
            found = there;
            within = within;
            made = chooses.0;
            typed = chooses.1;
            snapshot = taken;
            plan = freed ∙ chooses.2 project place count;
          }

-- a request without a session has no table's name
pub no_session-asks : (specs : List TableSpec) (request : CreateReadSessionRequest) → None ≡ request.read_session → create_session_by specs (Ok request) ≡ Fixed (refused_for why.BadName)
unfolding table_name_of
no_session-asks specs request none =
    ap (λ (asked : Option ReadSession). session_on specs (unwrap_or asked no_session) request.max_stream_count (project_name_of request.parent) (table_name_of (unwrap_or asked no_session).table)) (sym none)
    ∙ ap (session_on specs no_session request.max_stream_count (project_name_of request.parent)) nameless
    ∙ either (project_name_of request.parent)
  where
    nameless : table_name_of [] ≡ None
    nameless = refl

    either : (project : Option ProjectName) → session_on specs no_session request.max_stream_count project None ≡ Fixed (refused_for why.BadName)
    either None = refl
    either (Some project) = refl

-- ---- what is told

-- the reply to the command is told as the plan has it
module _ (passes after : List TableView) (project : ProjectName) (session : ReadSession) (place : ℕ) (spec : TableSpec) (count : ℤ) (fields : List ℕ) (pred : Pred) (now : ℤ) where
  asks_for : (chosen : List ℕ) (n : ℤ) (snapshot : Option ℤ) (told : Reply → Answer) → Plan Answer
  asks_for chosen n snapshot told = At place (on_command spec.schema (command.Session pred chosen n snapshot) told)

  pub gets-begun : (chosen : List ℕ) (n m : ℤ) (snapshot : Option ℤ) (slot : Option TableSpec) (other : TableSpec) (given : Reply) (result : Result Answer Memory)
      → chosen ≡ fields → n ≡ count → m ≡ now → snapshot ≡ snapshot_in session → slot ≡ Some spec → slot ≡ Some other
      → IfOk result (λ answer. answer ≡ told_begun project session place other.schema fields given)
      → ((told : Reply → Answer) → Gets passes (At place (on_command spec.schema (command.Session pred chosen n snapshot) told)) m (told given) after)
      → IfOk result (λ answer. Gets passes (At place (session_turn project session place spec.schema count fields pred)) now answer after)
  unfolding asks_for
  gets-begun chosen n m snapshot slot other given (Ok answer) same_fields same_count same_now same_snapshot mine theirs is gets =
      let told : Reply → Answer = told_begun project session place spec.schema fields in
      let one : other ≡ spec = one_spec (sym theirs ∙ mine) in
      let told_is : told given ≡ answer = ap (λ (s : TableSpec). told_begun project session place s.schema fields given) (sym one) ∙ sym is in
      subst (λ a. Gets passes (asks_for fields count (snapshot_in session) told) now a after) told_is
      (subst (λ s. Gets passes (asks_for fields count s told) now (told given) after) same_snapshot
      (subst (λ k. Gets passes (asks_for fields k snapshot told) now (told given) after) same_count
      (subst (λ (fs : List ℕ). Gets passes (asks_for fs n snapshot told) now (told given) after) same_fields
      (subst (λ t. Gets passes (asks_for chosen n snapshot told) t (told given) after) same_now (gets told)))))
    where
      one_spec : {a b : TableSpec} → Some a ≡ Some b → a ≡ b
      one_spec e = cc
  gets-begun chosen n m snapshot slot other given (Err memory) same_fields same_count same_now same_snapshot mine theirs is gets = tt

-- what a turn replied, whatever it is told as
pub turn_gives : (specs : List TableSpec) (passes : List TableView) (place : ℕ) (asked : Command) (m : ℤ) (after : List TableView) (result : Result Reply Memory) (given : Reply) (spec : TableSpec)
    → IfOk result (λ reply. (spec : TableSpec) → slice_get specs place ≡ Some spec → (told : Reply → Answer) → Gets passes (At place (on_command spec.schema asked told)) m (told reply) after)
    → result ≡ Ok given → slice_get specs place ≡ Some spec → (told : Reply → Answer) → Gets passes (At place (on_command spec.schema asked told)) m (told given) after
turn_gives specs passes place asked m after result given spec gets is there told =
    subst (λ r. IfOk r (λ reply. (spec : TableSpec) → slice_get specs place ≡ Some spec → (told : Reply → Answer) → Gets passes (At place (on_command spec.schema asked told)) m (told reply) after)) is gets spec there told
