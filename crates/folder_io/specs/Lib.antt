-- The words of the contracts.
--     Causes   what licenses a failure, and what an object tells:
--              Rose, Told, ToldBoth, GrowsByPrefix
--     Names    what stands under the names of a folder:
--              Files, held_at, Holds, IsMissing, IsLonger, SameBut, files_of, take_answer, Gives
--     States   what a contract sees of a folder and of a sink:
--              FolderState, SinkState, FailedFor, IsQuiet
--     Plans    which calls of an object in memory fail, and what the working folder knows:
--              Plan, fails_next, after_call, MemoryFolder, MemorySink, Failures
pub mod Causes
pub mod Names
pub mod States
pub mod Plans
