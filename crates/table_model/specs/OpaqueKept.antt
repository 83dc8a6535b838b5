-- What a store keeps beside its entries: where the next row stands, and what all rows weigh.
use Rattle.std.specs.Prelude.{◌≡◌, ℕ, ◌≤◌, List}
use Rattle.table_model.specs.declared.limits.TheConstants.{MAX_WEIGHT}
use Rattle.table_model.specs.declared.opaque_rows.OpaqueEntry.{OpaqueEntry}
use Rattle.table_model.specs.Opaque.{content_of, end_of, weight_of}

pub record IsKept (entries : List OpaqueEntry) (end weight : ℕ) : Type 0 where
  pub end_is : end ≡ end_of entries
  pub weight_is : weight ≡ weight_of (content_of entries)
  pub light : weight ≤ MAX_WEIGHT
