-- How fields and tables of a scenario are printed. Source: this project.
use Rattle.std.specs.Prelude.{ℕ, List, ◌++◌, codes}
use Rattle.bench_types.specs.declared.fields.Field.{Field}
use Rattle.bench_types.specs.declared.fields.Field.TheVariants as field
use Rattle.bench_types.specs.declared.fields.TableName.{TableName}
use Rattle.bench_types.specs.declared.fields.TableName.TheVariants as table
use Rattle.bench_types.specs.Field.{field_name}

-- the table that has the field: the text itself, or an element of one of its arrays
abbrev pub table_of : Field → TableName
table_of field.PartitionFrom = table.Partition
table_of field.PartitionTo = table.Partition
table_of field.PartitionApart = table.Partition
table_of field.RestartNode = table.Restart
table_of field.RestartRound = table.Restart
table_of field.RestartDown = table.Restart
table_of field.RestartForget = table.Restart
table_of field.LoadFrom = table.Load
table_of field.LoadTo = table.Load
table_of field.LoadWrites = table.Load
table_of _ = table.Top

-- what a table is called
abbrev pub table_name : TableName → List ℕ
table_name table.Top = codes "top"
table_name table.Partition = codes "partition"
table_name table.Restart = codes "restart"
table_name table.Load = codes "load"

-- a name in a table: behind that of the table and a point where that is an element
abbrev pub name_in : TableName → List ℕ → List ℕ
name_in table.Top name = name
name_in element name = table_name element ++ (codes "." ++ name)

-- how a field is printed
abbrev pub field_text : Field → List ℕ
field_text f = name_in (table_of f) (field_name f)
