mod Journals
mod Finished
