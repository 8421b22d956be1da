-- The instances that rows and records mean, and the row of an instance.
use Rattle.std.specs.Prelude.{◌-◌, ◌++◌, length, take, replicate}
use Rattle.records.specs.Instance.{Instance}
use Rattle.records.specs.declared.row.Row.{Row}
use Rattle.records.specs.declared.record.Record.{Record}

-- what a row means: of its five cells the first `count` are read
abbrev pub row_instance : Row → Instance
row_instance r = record { operator = r.operator; written = r.written; reads = take r.count r.reads }

-- the row that a record lies in, with what stands past its reads
abbrev pub row_held : Record → Row
row_held r = r.row

-- what a record means
abbrev pub instance : Record → Instance
instance r = row_instance r.row

-- the row of an instance: past its reads stands 0
abbrev pub row_of : Instance → Row
row_of i = record { operator = i.operator; written = i.written; count = length i.reads; reads = i.reads ++ replicate (5 - length i.reads) 0 }
