mod Undone
