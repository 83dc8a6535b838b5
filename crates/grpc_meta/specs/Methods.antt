-- The methods and their paths: '/', the service's name with its package, '/' and the method's name (gRPC over HTTP/2, Requests).
use Rattle.std.specs.Prelude.{ℕ, List, [], ◌∷◌, Option, codes}
use Rattle.std.specs.List.{find}
use Rattle.std.specs.Str.{bytes_eq}
use Rattle.grpc_meta.specs.declared.methods.Method.{Method}
use Rattle.grpc_meta.specs.declared.methods.Method.TheVariants as method

unfoldable pub path_of : Method → List ℕ
path_of method.CreateReadSession = codes "/google.cloud.bigquery.storage.v1.BigQueryRead/CreateReadSession"
path_of method.ReadRows = codes "/google.cloud.bigquery.storage.v1.BigQueryRead/ReadRows"
path_of method.SplitReadStream = codes "/google.cloud.bigquery.storage.v1.BigQueryRead/SplitReadStream"
path_of method.CreateWriteStream = codes "/google.cloud.bigquery.storage.v1.BigQueryWrite/CreateWriteStream"
path_of method.AppendRows = codes "/google.cloud.bigquery.storage.v1.BigQueryWrite/AppendRows"
path_of method.GetWriteStream = codes "/google.cloud.bigquery.storage.v1.BigQueryWrite/GetWriteStream"
path_of method.FinalizeWriteStream = codes "/google.cloud.bigquery.storage.v1.BigQueryWrite/FinalizeWriteStream"
path_of method.BatchCommitWriteStreams = codes "/google.cloud.bigquery.storage.v1.BigQueryWrite/BatchCommitWriteStreams"
path_of method.FlushRows = codes "/google.cloud.bigquery.storage.v1.BigQueryWrite/FlushRows"

unfoldable pub methods : List Method
methods =
    method.CreateReadSession ∷
    method.ReadRows ∷
    method.SplitReadStream ∷
    method.CreateWriteStream ∷
    method.AppendRows ∷
    method.GetWriteStream ∷
    method.FinalizeWriteStream ∷
    method.BatchCommitWriteStreams ∷
    method.FlushRows ∷ []

-- the method that has this path
abbrev pub method_at : List ℕ → Option Method
method_at path = find (λ m. bytes_eq (path_of m) path) methods
